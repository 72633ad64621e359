-- Some of the inputs were fed, and the seat goes on with what it brings.
use Rattle.std.proofs.Common.{◌≡◌, None, false}
use Rattle.ng_turn.specs.Words.{seat_of}
use Rattle.ng_workers.specs.Driving.{Drives, MayFeed}
use Rattle.ng_workers.specs.Hands.{Brings}
use Rattle.ng_workers.specs.Passes.{IsOf, desk}
use Rattle.ng_workers.proofs.driving.drive.Given as goal

abbrev pub invariant-loop : goal.invariant-loop
invariant-loop g l =
    (goal.iterator-loop g).can_next l.iterator' × (goal.iterator-loop g).is_finite l.iterator'
    × IsOf l.turn l.pass × (seat_of l.pass ≡ 0) × ((desk l.pass).gave_up ≡ false) × Brings g.B.Node.state l.done (desk l.pass)
    × Drives (desk l.fn.pass) (desk l.pass) l.fn.inputs.items l.feeder.unfed None × MayFeed l.feeder (desk l.pass)
