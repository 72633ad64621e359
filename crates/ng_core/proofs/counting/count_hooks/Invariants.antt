use Rattle.std.proofs.Common.{◌≡◌, ◌≤◌, ◌*◌, take}
use Rattle.ng_machine.specs.Totals.{hook_total}
use Rattle.ng_core.proofs.counting.count_hooks.Given as goal

abbrev pub invariant-loop-n : goal.invariant-loop-n
invariant-loop-n g l = (l.count ≡ hook_total (take l.n l.graph.nodes)) × (l.count ≤ l.n * 16777216)
