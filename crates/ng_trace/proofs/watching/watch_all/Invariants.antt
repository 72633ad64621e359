-- The core has followed the events so far, each seat holds what its desk says until it ended, and it is noted what became of them.
use Rattle.std.proofs.Common.{◌≡◌, ◌++◌, length}
use Rattle.ng_replay.specs.judge.Following.{HasFollowed, HoldsWhileOpen, all_with}
use Rattle.ng_core.specs.CoreStory.{story}
use Rattle.ng_machine.specs.story.Story.{AreFitFor}
use Rattle.ng_trace.specs.Watch.{watched_from}
use Rattle.ng_trace.proofs.watching.watch_all.Given as goal

abbrev pub invariant-loop-event : goal.invariant-loop-event
invariant-loop-event g l =
    HasFollowed (all_with (story l.fn.core) l.fn.unfed) l.yielded (story l.core) l.unfed
    × HoldsWhileOpen g.B.Node.state l.held (story l.core) × AreFitFor (story l.core) l.unfed × (l.core.seats ≡ l.fn.core.seats)
    × (length l.held ≡ length l.fn.held) × (l.number ≡ length l.yielded) × (l.yielded ++ l.event-iterator ≡ l.journal.items)
    × (l.watched ≡ watched_from (all_with (story l.fn.core) l.fn.unfed) l.fn.watched l.yielded)
