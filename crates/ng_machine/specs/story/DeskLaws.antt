-- What each call does to desks: its own seat's gains the event, and every other seat's stays. And what a desk says of an item's
-- node is so now.
use Rattle.std.specs.Prelude.{◌≡◌, ℕ, ◌<◌, Bool, true, false, List, [], ◌∷◌, ◌++◌, length, Some}
use Rattle.ng_base.specs.declared.event.Event.{Event}
use Rattle.ng_base.specs.declared.event.Event.TheVariants.{Feed, Take, Back, Apply, Stop}
use Rattle.ng_base.specs.declared.ids.ItemId.{ItemId}
use Rattle.ng_machine.specs.declared.input.Input.{Input}
use Rattle.ng_machine.specs.declared.item.Item.{Item}
use Rattle.ng_machine.specs.Words.{Has}
use Rattle.ng_machine.specs.Laws.{taken_by, IsJournal}
use Rattle.ng_machine.specs.Desk.{Idle, SeatDesk, first_desk, job_of}
use Rattle.ng_machine.specs.story.Story.{Story, run_state_of, world_of, with_event, with_input, given_up_by}
use Rattle.ng_machine.specs.story.Closing.{stops, closed_with}
use Rattle.ng_machine.specs.story.Desks.{story_job, story_desk, Others, desk_with, Gained, IsJobNow}

-- the journal is orderly over the inputs fed
abbrev pub IsOrderlySoFar : Story → Type 0
IsOrderlySoFar s = IsJournal s.setting s.journal

-- the job of a seat that takes an item is what the item's node asks for
abbrev pub TakeTells : Type 0
TakeTells =
    (s : Story) (item : Item) (seat : ℕ) → IsOrderlySoFar s → Has item (world_of s).pending
    → Others seat s (with_event s (Take seat item.id)) × Gained seat (Take seat item.id) (job_of (world_of s) item) s (with_event s (Take seat item.id))

abbrev pub BackTells : Type 0
BackTells =
    (s : Story) (id : ItemId) (seat : ℕ) → IsOrderlySoFar s → Has (taken_by id seat) (run_state_of s).taken
    → Others seat s (with_event s (Back id)) × Gained seat (Back id) Idle s (with_event s (Back id))

abbrev pub ApplyTells : Type 0
ApplyTells =
    (s : Story) (id : ItemId) (seat : ℕ) → IsOrderlySoFar s → Has (taken_by id seat) (run_state_of s).taken
    → Others seat s (with_event s (Apply id)) × Gained seat (Apply id) Idle s (with_event s (Apply id))

-- the first seat's desk gains a Feed, and has the input
abbrev pub fed_desk : Story → Input → SeatDesk
fed_desk s input = record (desk_with (story_desk s 0) Feed (story_job s 0)) { first = first_desk (with_input s input).setting (s.journal ++ Feed ∷ []) s.closed 0 }

abbrev pub FeedTells : Type 0
FeedTells =
    (s : Story) (input : Input) → IsOrderlySoFar s
    → Others 0 s (with_event (with_input s input) Feed) × (story_desk (with_event (with_input s input) Feed) 0 ≡ fed_desk s input)

-- the first seat's desk gains a Stop where there is one, and has the number that close was given
abbrev pub stop_events : Bool → List Event
stop_events true = Stop ∷ []
stop_events false = []

abbrev pub closed_desk : Story → ℕ → SeatDesk
closed_desk s unfed = record (story_desk s 0) { own = (story_desk s 0).own ++ stop_events (stops s unfed); first = first_desk s.setting s.journal (Some unfed) 0 }

abbrev pub CloseTells : Type 0
CloseTells = (s : Story) (unfed : ℕ) → Others 0 s (closed_with s unfed) × (story_desk (closed_with s unfed) 0 ≡ closed_desk s unfed)

abbrev pub GiveUpTells : Type 0
GiveUpTells =
    (s : Story) (seat : ℕ) → seat < length s.gave_up
    → Others seat s (given_up_by s seat) × (story_desk (given_up_by s seat) seat ≡ record (story_desk s seat) { gave_up = true })

-- what the desk of a seat says of an item's node is so where the run stands now
abbrev pub JobsStand : Type 0
JobsStand = (s : Story) (seat : ℕ) → IsOrderlySoFar s → IsJobNow (run_state_of s) seat (story_job s seat)
