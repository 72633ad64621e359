-- What seats hold, in order of seats.
use Rattle.std.specs.Prelude.{◌≡◌, ℕ, true, false, List, is_some, slice_index_or, Option, Some, None}
use Rattle.ng_machine.specs.Desk.{Job, Idle}
use Rattle.ng_machine.specs.State.{State}
use Rattle.ng_machine.specs.story.Desks.{story_job}
use Rattle.ng_machine.specs.story.Story.{Story, has_ended}
use Rattle.ng_core_state.specs.declared.handed.Work.{Work}
use Rattle.ng_core_state.specs.Handed.{job_with}

abbrev pub held_job : {B : Type 0} → (B → State) → Option (Work B) → Job
held_job state None = Idle
held_job state (Some work) = job_with state work

abbrev pub held_at : {B : Type 0} → List (Option (Work B)) → ℕ → Option (Work B)
held_at held seat = slice_index_or held seat None

-- each seat holds what its desk says, and where one holds anything the core hasn't ended
pub record HoldsJobs {B : Type 0} (state : B → State) (held : List (Option (Work B))) (s : Story) : Type 0 where
  pub jobs : (seat : ℕ) → story_job s seat ≡ held_job state (held_at held seat)
  pub running : (seat : ℕ) → is_some (held_at held seat) ≡ true → has_ended s ≡ false
