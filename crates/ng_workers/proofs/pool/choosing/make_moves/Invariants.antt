-- Whatever the moves that are left do, the moves do from the beginning, with the places of those that were skipped so far before
-- theirs; and each seat holds what its desk says.
use Rattle.std.proofs.Common.{◌≡◌, length}
use Rattle.ng_workers.specs.pool.Held.{HoldsJobs}
use Rattle.ng_core.specs.CoreStory.{story}
use Rattle.ng_machine.specs.story.Story.{AreFitFor, has_ended}
use Rattle.ng_workers.proofs.pool.Playing.{PlayedSoFar}
use Rattle.ng_workers.proofs.pool.choosing.make_moves.Given as goal

abbrev pub invariant-loop-one : goal.invariant-loop-one
invariant-loop-one g l =
    PlayedSoFar l.moves (story l.fn.core) l.fn.unfed l.one-index (story l.core) l.unfed l.skipped.items
    × HoldsJobs g.B.Node.state l.held (story l.core) × AreFitFor (story l.core) l.unfed × (has_ended (story l.core) ≡ has_ended (story l.fn.core)) × (l.core.seats ≡ l.fn.core.seats)
    × (length l.held ≡ length l.fn.held) × (l.place ≡ l.one-index)
