-- What a count does to a row of counters: both types count for the node, whatever the hook.
use Rattle.std.specs.Prelude.{ℕ, List}
use Rattle.ng_machine.specs.Counters.{Count, raise_at}

abbrev pub count_number : List ℕ → Count → List ℕ
count_number row c = raise_at row c.1 c.2
