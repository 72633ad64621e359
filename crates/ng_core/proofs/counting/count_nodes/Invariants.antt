use Rattle.std.proofs.Common.{◌≡◌, ◌≤◌, take}
use Rattle.std.specs.Prelude.{is_some}
use Rattle.ng_machine.specs.Words.{times}
use Rattle.ng_core.proofs.counting.count_nodes.Given as goal

abbrev pub invariant-loop-n : goal.invariant-loop-n
invariant-loop-n g l = (l.count ≡ times (λ node. is_some node) (take l.n l.graph.nodes)) × (l.count ≤ l.n)
