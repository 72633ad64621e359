-- A plain run on its way.
use Rattle.std.specs.Prelude.{◌≡◌, ◌⊎◌, ℕ, ◌+◌, ◌-◌, List, [], ◌++◌, length, None}
use Rattle.ng_base.specs.declared.event.Event.{Event}
use Rattle.ng_base.specs.declared.event.Event.TheVariants.{Take}
use Rattle.ng_base.specs.declared.ids.ItemId.{ItemId}
use Rattle.ng_machine.specs.declared.input.Input.{Input}
use Rattle.ng_machine.specs.Plain.{PlainFrom}
use Rattle.ng_workers.specs.pool.Plainly.{stretched}
use Rattle.ng_core.specs.Served.{served_story}
use Rattle.ng_machine.specs.story.SoundStory.{IsSoundStory}
use Rattle.ng_machine.specs.story.Story.{Story, run_state_of, with_event, with_more, world_of}

-- what was fed and done since it began, all of it plain, and nothing is taken
pub record Going (start : Story) (inputs : List Input) (now : Story) (left : List Input) : Type 0 where
  pub sound : IsSoundStory start
  pub unclosed : start.closed ≡ None
  pub fed : List Input
  pub parts : inputs ≡ fed ++ left
  pub events : List Event
  pub story : now ≡ stretched start fed events
  pub plainly : PlainFrom (with_more start.setting inputs).given (run_state_of start) events
  pub idle : (run_state_of now).taken ≡ []

-- an item is taken by the seat 0 and applied at once
abbrev pub IsServed : Story → Story → Type 0
IsServed s t = (id : ItemId) × (t ≡ served_story s 0 id)

-- memory ran out before the seat 0 took an item, or before what it took was applied
abbrev pub IsHalfServed : Story → Story → Type 0
IsHalfServed s t = (t ≡ s) ⊎ ((id : ItemId) × (t ≡ with_event s (Take 0 id)))

-- how much there is to do at most: items that may be applied, and inputs
abbrev pub to_do : Story → List Input → ℕ
to_do s left = (s.setting.budget - (world_of s).applies) + length left
