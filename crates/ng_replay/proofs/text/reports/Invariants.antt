-- The lines of the ports so far.
use Rattle.std.proofs.Common.{◌≡◌, take}
use Rattle.ng_call.specs.Writes.{shown_by}
use Rattle.ng_core.specs.CoreStory.{story}
use Rattle.ng_machine.specs.story.Story.{world_of}
use Rattle.ngctl_print.specs.whole.Text.{reports}
use Rattle.ng_replay.proofs.text.reports.Given as goal

abbrev pub invariant-loop-i : goal.invariant-loop-i
invariant-loop-i g l = l.made.items ≡ reports (shown_by (take l.i l.ports) (take l.i l.cuts)) (world_of (story l.core)).ports
