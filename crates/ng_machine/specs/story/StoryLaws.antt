-- Each call's event keeps a story sound, where the call's condition holds.
use Rattle.std.specs.Prelude.{◌≡◌, ℕ, ◌+◌, ◌<◌, [], length, None}
use Rattle.ng_base.specs.declared.event.Event.TheVariants.{Feed, Take, Back, Apply}
use Rattle.ng_base.specs.declared.ids.ItemId.{ItemId}
use Rattle.ng_machine.specs.declared.input.Input.{Input}
use Rattle.ng_machine.specs.declared.item.Item.{Item}
use Rattle.ng_machine.specs.Words.{Has}
use Rattle.ng_machine.specs.Refusal.{feed_refusal}
use Rattle.ng_machine.specs.Laws.{Setting, taken_by}
use Rattle.ng_machine.specs.Desk.{Idle}
use Rattle.ng_machine.specs.story.Story.{Story, run_state_of, world_of, with_event, with_input, given_up_by, begun, IsNext}
use Rattle.ng_machine.specs.story.Closing.{close_refusal, closed_with}
use Rattle.ng_machine.specs.story.SoundStory.{IsSoundStory}
use Rattle.ng_machine.specs.story.Desks.{story_job}

abbrev pub BegunIsSound : Type 0
BegunIsSound = (setting : Setting) → setting.given.inputs ≡ [] → IsSoundStory (begun setting)

abbrev pub FeedKeepsSound : Type 0
FeedKeepsSound =
    (s : Story) (input : Input) → IsSoundStory s → s.closed ≡ None → feed_refusal s.setting.budget (world_of s) input ≡ None
    → IsSoundStory (with_event (with_input s input) Feed)

abbrev pub TakeKeepsSound : Type 0
TakeKeepsSound =
    (s : Story) (item : Item) (seat : ℕ) → IsSoundStory s → s.closed ≡ None → seat < s.setting.seats → story_job s seat ≡ Idle
    → (world_of s).applies + length (run_state_of s).taken < s.setting.budget → IsNext (run_state_of s) item
    → IsSoundStory (with_event s (Take seat item.id))

abbrev pub BackKeepsSound : Type 0
BackKeepsSound =
    (s : Story) (id : ItemId) (seat : ℕ) → IsSoundStory s → s.closed ≡ None → Has (taken_by id seat) (run_state_of s).taken
    → IsSoundStory (with_event s (Back id))

abbrev pub ApplyKeepsSound : Type 0
ApplyKeepsSound =
    (s : Story) (id : ItemId) (seat : ℕ) → IsSoundStory s → s.closed ≡ None → Has (taken_by id seat) (run_state_of s).taken
    → IsSoundStory (with_event s (Apply id))

abbrev pub CloseKeepsSound : Type 0
CloseKeepsSound =
    (s : Story) (unfed : ℕ) → IsSoundStory s → s.closed ≡ None → close_refusal s unfed ≡ None → IsSoundStory (closed_with s unfed)

abbrev pub GiveUpKeepsSound : Type 0
GiveUpKeepsSound = (s : Story) (seat : ℕ) → IsSoundStory s → IsSoundStory (given_up_by s seat)
