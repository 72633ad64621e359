-- Some of the inputs were fed, and the others may be.
use Rattle.std.proofs.Common.{◌≡◌, None, false, length}
use Rattle.ng_core.specs.CoreStory.{story}
use Rattle.ng_machine.specs.story.Desks.{Others}
use Rattle.ng_machine.specs.story.Story.{has_ended}
use Rattle.ng_workers.specs.Desks.{core_desk}
use Rattle.ng_workers.specs.Driving.{Drives, MayFeed}
use Rattle.ng_workers.proofs.feeding.feed_all.Given as goal

abbrev pub invariant-loop : goal.invariant-loop
invariant-loop g l =
    Drives (core_desk l.fn.core 0) (core_desk l.core 0) l.fn.feeder.unfed l.feeder.unfed None × MayFeed l.feeder (core_desk l.core 0) × (has_ended (story l.core) ≡ false)
    × ((core_desk l.core 0).job ≡ (core_desk l.fn.core 0).job) × ((core_desk l.core 0).gave_up ≡ (core_desk l.fn.core 0).gave_up) × Others 0 (story l.fn.core) (story l.core)

abbrev pub decreases-loop : goal.decreases-loop
decreases-loop g l = length l.feeder.unfed
