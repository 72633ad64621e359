-- The kinds of the boxes that the loop came to.
use Rattle.std.proofs.Common.{◌≡◌, map}
use Rattle.std.specs.Prelude.{take}
use Rattle.ng_machine.specs.State.{kind_of}
use Rattle.ng_core.proofs.making.kinds_of.Given as goal

abbrev pub invariant-loop-node : goal.invariant-loop-node
invariant-loop-node g l = l.kinds.items ≡ map (λ b. kind_of (g.B.Node.state b)) (take l.node-index l.fn.stock)
