-- How many hooks a node has, where it is there.
use Rattle.std.specs.Prelude.{ℕ, length, Option, Some, None}
use Rattle.ng_machine.specs.World.{NodeRecord}

abbrev pub hook_count : Option NodeRecord → ℕ
hook_count None = 0
hook_count (Some node) = length node.hooks
