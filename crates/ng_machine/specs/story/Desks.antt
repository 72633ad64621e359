-- The desks of a story, and what a call of one seat does to them.
use Rattle.std.specs.Prelude.{◌≡◌, ◌≢◌, ℕ, false, [], ◌∷◌, ◌++◌, None}
use Rattle.ng_base.specs.declared.event.Event.{Event}
use Rattle.ng_machine.specs.declared.item.Item.{Item}
use Rattle.ng_machine.specs.Words.{Has}
use Rattle.ng_machine.specs.Run.{RunState, Taken}
use Rattle.ng_machine.specs.Laws.{taken_by}
use Rattle.ng_machine.specs.Desk.{Job, Idle, Within, Reads, Writes, SeatDesk, job_of, job_in, desk_of}
use Rattle.ng_machine.specs.story.Story.{Story}

abbrev pub story_job : Story → ℕ → Job
story_job s seat = job_in s.setting s.journal seat

abbrev pub story_desk : Story → ℕ → SeatDesk
story_desk s seat = desk_of s.setting s.journal s.gave_up s.closed seat

-- a desk of no core
abbrev pub no_desk : SeatDesk
no_desk = record { seats = 0; own = []; gave_up = false; job = Idle; first = None }

-- every other seat's desk stays
abbrev pub Others : ℕ → Story → Story → Type 0
Others seat old new = (other : ℕ) → other ≢ seat → story_desk new other ≡ story_desk old other

-- a desk with one event more, and with the job that the event leaves
abbrev pub desk_with : SeatDesk → Event → Job → SeatDesk
desk_with desk event job = record desk { own = desk.own ++ event ∷ []; job = job }

-- the seat's desk has gained this event, and the job that the event leaves
abbrev pub Gained : ℕ → Event → Job → Story → Story → Type 0
Gained seat event job old new = story_desk new seat ≡ desk_with (story_desk old seat) event job

-- the item is pending, this seat has taken it, and the job is what the item's node asks for now
pub record IsAtWork (at : RunState) (seat : ℕ) (item : Item) (job : Job) : Type 0 where
  pub pending : Has item at.world.pending
  pub taken : Has (taken_by item.id seat) at.taken
  pub job_is : job_of at.world item ≡ job

-- what the seat works on is so of the world now; without a job it has taken nothing
abbrev pub IsJobNow : RunState → ℕ → Job → Type 0
IsJobNow at seat Idle = (t : Taken) → Has t at.taken → t.seat ≡ seat → ⊥
IsJobNow at seat (Within item) = IsAtWork at seat item (Within item)
IsJobNow at seat (Reads item plan) = IsAtWork at seat item (Reads item plan)
IsJobNow at seat (Writes item state) = IsAtWork at seat item (Writes item state)
