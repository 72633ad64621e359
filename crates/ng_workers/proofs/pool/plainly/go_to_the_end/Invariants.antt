-- The run goes on, and each thing done leaves less to do.
use Rattle.std.proofs.Common.{◌≡◌, [], List, false}
use Rattle.ng_machine.specs.declared.input.Input.{Input}
use Rattle.ng_machine.specs.Outcome.{nothing}
use Rattle.ng_workers.specs.pool.Going.{Going, to_do}
use Rattle.ng_core.specs.CoreStory.{story}
use Rattle.ng_machine.specs.story.Desks.{Others}
use Rattle.ng_machine.specs.story.Story.{AreFitFor, Story, has_ended, run_state_of}
use Rattle.ng_workers.proofs.pool.plainly.go_to_the_end.Given as goal

abbrev pub invariant-loop : goal.invariant-loop
invariant-loop g l =
    ((start : Story) (inputs : List Input) → Going start inputs (story l.fn.core) l.fn.unfed → Going start inputs (story l.core) l.unfed)
    × (has_ended (story l.core) ≡ false) × ((run_state_of (story l.core)).taken ≡ []) × AreFitFor (story l.core) l.unfed × (l.outcome ≡ nothing) × Others 0 (story l.fn.core) (story l.core)

abbrev pub decreases-loop : goal.decreases-loop
decreases-loop g l = to_do (story l.core) l.unfed
