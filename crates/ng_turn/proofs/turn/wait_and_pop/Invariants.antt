use Rattle.std.proofs.Common.{◌≡◌}
use Rattle.crossbeam_queue.specs.Passes.{view, IsPassOf, IsSamePass}
use Rattle.ng_turn.proofs.turn.wait_and_pop.Given as goal

abbrev pub invariant-loop : goal.invariant-loop
invariant-loop g l = (goal.iterator-loop g).can_next l.iterator' × (goal.iterator-loop g).is_finite l.iterator'
    × IsPassOf l.place l.ticket × IsSamePass l.initial.ticket l.ticket × (view l.ticket ≡ view l.initial.ticket)
