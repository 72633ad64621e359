-- A core that follows a journal: what it does is what the machine does over all the inputs, those fed and those left.
use Rattle.std.specs.Prelude.{◌≡◌, ◌⊎◌, ℕ, ◌<◌, ◌==◌, Bool, false, List, [], ◌∷◌, ◌++◌, length, Option, Some, None}
use Rattle.ng_base.specs.declared.event.Event.{Event}
use Rattle.ng_base.specs.declared.ids.ItemId.{ItemId}
use Rattle.ng_machine.specs.declared.input.Input.{Input}
use Rattle.ng_machine.specs.Laws.{Setting, IsJournal, run_state_after}
use Rattle.ng_machine.specs.State.{State}
use Rattle.ng_machine.specs.World.{World}
use Rattle.ng_workers.specs.pool.Held.{HoldsJobs}
use Rattle.ng_machine.specs.story.Story.{Story, has_ended, run_state_of, with_more}
use Rattle.ng_core_state.specs.declared.handed.Work.{Work}
use Rattle.ng_core_state.specs.Handed.{item_of}

-- the core, with these inputs left, stands where the run of this journal over all inputs stands
pub record StandsAfter (all : Setting) (journal : List Event) (s : Story) (left : List Input) : Type 0 where
  pub inputs : with_more s.setting left ≡ all
  pub events : s.journal ≡ journal
  pub allowed : IsJournal all journal
  pub run : run_state_after all journal ≡ run_state_of s

-- and it has ended exactly where a Stop ended that run
pub record HasFollowed (all : Setting) (journal : List Event) (s : Story) (left : List Input) : Type 0 where
  pub stands : StandsAfter all journal s left
  pub ended : has_ended s ≡ (run_state_of s).stopped

-- all inputs, by those that were fed and those that are left
abbrev pub all_with : Story → List Input → Setting
all_with s left = with_more s.setting left

-- it has followed its own journal so far
abbrev pub Goes : Story → List Input → Type 0
Goes s left = HasFollowed (all_with s left) s.journal s left

-- it has followed one event more
abbrev pub Follows : Story → List Input → Event → Story → List Input → Type 0
Follows s left event t rest = HasFollowed (all_with s left) (s.journal ++ event ∷ []) t rest

-- the event isn't allowed there
abbrev pub Refuses : Story → List Input → Event → Type 0
Refuses s left event = IsJournal (all_with s left) (s.journal ++ event ∷ []) → ⊥

-- something is pending or unfed
abbrev pub HasRest : World → ℕ → Type 0
HasRest w unfed = (0 < length w.pending) ⊎ (0 < unfed)

-- until the core has ended each seat holds what its desk says
abbrev pub HoldsWhileOpen : {B : Type 0} → (B → State) → List (Option (Work B)) → Story → Type 0
HoldsWhileOpen state held s = has_ended s ≡ false → HoldsJobs state held s

-- what a seat holds is the work on this item
abbrev pub has_item : {B : Type 0} → ItemId → Option (Work B) → Bool
has_item id None = false
has_item id (Some work) = (item_of work).id.0 == id.0
