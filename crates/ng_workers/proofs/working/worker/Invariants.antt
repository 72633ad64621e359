-- The pass is of the same seat, whose desk grew, and the seat goes on with what it brings.
use Rattle.std.proofs.Common.{◌≡◌, false}
use Rattle.ng_workers.specs.Hands.{Brings}
use Rattle.ng_workers.specs.Passes.{Grows, IsOf, desk}
use Rattle.ng_workers.proofs.working.worker.Given as goal

abbrev pub invariant-loop : goal.invariant-loop
invariant-loop g l =
    (goal.iterator-loop g).can_next l.iterator' × (goal.iterator-loop g).is_finite l.iterator'
    × IsOf l.turn l.pass × Grows l.fn.pass l.pass × ((desk l.pass).gave_up ≡ false) × Brings g.B.Node.state l.done (desk l.pass)
