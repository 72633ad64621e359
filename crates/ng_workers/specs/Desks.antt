-- What the desk of a seat may become while the seat works.
use Rattle.std.specs.Prelude.{◌≡◌, ◌⊎◌, ℕ, ◌<◌, Bool, true, false, List, ◌++◌}
use Rattle.ng_base.specs.declared.event.Event.{Event}
use Rattle.ng_base.specs.declared.event.Event.TheVariants.{Feed, Back}
use Rattle.ng_machine.specs.Desk.{SeatDesk, Idle}
use Rattle.ng_machine.specs.Words.{Every, times}
use Rattle.ng_core.specs.CoreStory.{CoreStory, story}
use Rattle.ng_machine.specs.story.Desks.{story_desk}

-- the desk that the core has for the seat
abbrev pub core_desk : CoreStory → ℕ → SeatDesk
core_desk core seat = story_desk (story core) seat

abbrev pub is_back : Event → Bool
is_back (Back id) = true
is_back _ = false

abbrev pub is_feed : Event → Bool
is_feed Feed = true
is_feed _ = false

-- an item is put back by a seat that gives up, and by no other
abbrev pub MayBack : Bool → List Event → Type 0
MayBack true more = Unit {0}
MayBack false more = Every (λ event. is_back event ≡ false) more

-- more events of its own; who gave up stays so
pub record Gains (old new : SeatDesk) (more : List Event) : Type 0 where
  pub seats : new.seats ≡ old.seats
  pub own : new.own ≡ old.own ++ more
  pub backs : MayBack new.gave_up more
  pub marks : old.gave_up ≡ true → new.gave_up ≡ true

-- the same, and nothing was fed or closed
pub record Grew (old new : SeatDesk) : Type 0 where
  pub more : List Event
  pub gains : Gains old new more
  pub feeds : times is_feed more ≡ 0
  pub first : new.first ≡ old.first

-- the seat has nothing and has not given up, in a core with more seats than its number
pub record IsReady (seat : ℕ) (desk : SeatDesk) : Type 0 where
  pub idle : desk.job ≡ Idle
  pub stays : desk.gave_up ≡ false
  pub seat_is : seat < desk.seats

-- the seat has nothing, or gave up
abbrev pub IsOver : SeatDesk → Type 0
IsOver desk = (desk.job ≡ Idle) ⊎ (desk.gave_up ≡ true)
