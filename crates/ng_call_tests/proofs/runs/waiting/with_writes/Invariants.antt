-- The states of the nodes that the loop came to.
use Rattle.std.proofs.Common.{◌≡◌, map}
use Rattle.ng_stock.specs.Any.{any_state}
use Rattle.ng_call_tests.proofs.runs.waiting.with_writes.Given as goal

abbrev pub invariant-loop-node : goal.invariant-loop-node
invariant-loop-node l = map (λ n. any_state n.node) l.nodes.items ≡ map any_state l.yielded
