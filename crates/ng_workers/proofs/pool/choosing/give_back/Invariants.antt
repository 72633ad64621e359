-- The seats behind give back what all do from the beginning, and those before hold nothing.
use Rattle.std.proofs.Common.{◌≡◌, ℕ, ◌-◌, ◌<◌, length}
use Rattle.std.specs.declared.option.Option.TheVariants.{None}
use Rattle.ng_workers.specs.pool.Held.{HoldsJobs, held_at}
use Rattle.ng_workers.specs.pool.Moves.{given_back}
use Rattle.ng_core.specs.CoreStory.{story}
use Rattle.ng_machine.specs.story.Story.{has_ended}
use Rattle.ng_workers.proofs.pool.choosing.give_back.Given as goal

abbrev pub invariant-loop-seat : goal.invariant-loop-seat
invariant-loop-seat g l =
    (given_back (l.seats - l.seat) l.seat (story l.core) ≡ given_back l.seats 0 (story l.fn.core))
    × HoldsJobs g.B.Node.state l.held (story l.core) × ((k : ℕ) → k < l.seat → held_at l.held k ≡ None)
    × (has_ended (story l.core) ≡ has_ended (story l.fn.core)) × ((story l.core).setting ≡ (story l.fn.core).setting) × (length l.held ≡ l.seats) × (l.core.seats ≡ l.fn.core.seats)
