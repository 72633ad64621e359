-- What becomes of the desk of the seat 0, which feeds the inputs and closes the core.
use Rattle.std.specs.Prelude.{◌≡◌, ◌⊎◌, ℕ, true, List, [], ◌∷◌, ◌++◌, length, Option, Some, None}
use Rattle.std.specs.List.{list_any}
use Rattle.ng_base.specs.declared.event.Event.{Event}
use Rattle.ng_base.specs.declared.event.Event.TheVariants.{Stop}
use Rattle.ng_machine.specs.declared.input.Input.{Input}
use Rattle.ng_machine.specs.Desk.{FirstDesk, SeatDesk}
use Rattle.ng_machine.specs.Laws.{Setting}
use Rattle.ng_machine.specs.LowRun.{IsModest}
use Rattle.ng_machine.specs.SetUp.{is_traffic}
use Rattle.ng_machine.specs.Words.{times}
use Rattle.ng_table.specs.reading.Reading.{given}
use Rattle.ng_workers.specs.declared.feeder.Feeder.{Feeder}
use Rattle.ng_workers.specs.declared.feeder.Stage.{Stage}
use Rattle.ng_workers.specs.declared.feeder.Stage.TheVariants.{SetUp, Traffic}
use Rattle.ng_workers.specs.Desks.{Gains, is_feed}

-- what the run was made of, and the inputs that were fed with these behind
abbrev pub setting_shown : ℕ → FirstDesk → List Input → Setting
setting_shown seats first inputs = record {
  own = first.own;
  ports = first.ports;
  stock = first.stock;
  given = given (first.inputs ++ inputs);
  budget = first.budget;
  seats = seats;
}

abbrev pub is_open_for : List Input → ℕ → Option FirstDesk → Type 0
is_open_for inputs seats None = ⊥
is_open_for inputs seats (Some first) = (first.closed ≡ None) × IsModest (setting_shown seats first inputs)

-- the core isn't closed, and the inputs may be fed to it
abbrev pub IsOpenFor : List Input → SeatDesk → Type 0
IsOpenFor inputs desk = is_open_for inputs desk.seats desk.first

-- in the stage of traffic a packet or a tick was fed
abbrev pub has_begun : Stage → Option FirstDesk → Type 0
has_begun SetUp shown = Unit {0}
has_begun Traffic None = ⊥
has_begun Traffic (Some first) = list_any is_traffic first.inputs ≡ true

-- the inputs that are left may be fed to the core, and the stage is that of what was fed
abbrev pub MayFeed : Feeder → SeatDesk → Type 0
MayFeed feeder desk = IsOpenFor feeder.unfed desk × has_begun feeder.stage desk.first

-- what the seat 0 was shown when the core was made, and then these inputs and this end. The first packet or tick waited if it
-- had before, or wasn't fed then.
abbrev pub after_feeding : List Input → Option ℕ → Option FirstDesk → Option FirstDesk
after_feeding fed closed None = None
after_feeding fed closed (Some first) = Some (record first { inputs = first.inputs ++ fed; closed = closed })

-- some of the inputs were fed in order, with an event for each, and the others are left
pub record Drives (old new : SeatDesk) (inputs left : List Input) (closed : Option ℕ) : Type 0 where
  pub more : List Event
  pub gains : Gains old new more
  pub fed : List Input
  pub parts : inputs ≡ fed ++ left
  pub feeds : times is_feed more ≡ length fed
  pub first : new.first ≡ after_feeding fed closed old.first

-- nothing is left, or the limit of applied items ended it
abbrev pub IsAtEnd : List Input → List Event → Type 0
IsAtEnd left own = (left ≡ []) ⊎ ((before : List Event) × (own ≡ before ++ Stop ∷ []))

-- the core was closed with the number of inputs that are left
pub record Closes (old new : SeatDesk) (inputs : List Input) : Type 0 where
  pub left : List Input
  pub drives : Drives old new inputs left (Some (length left))
  pub end : IsAtEnd left new.own

-- the seat gave up, and the core wasn't closed
pub record GivesUp (old new : SeatDesk) (inputs : List Input) : Type 0 where
  pub left : List Input
  pub drives : Drives old new inputs left None
  pub gave_up : new.gave_up ≡ true

abbrev pub DroveOn : SeatDesk → SeatDesk → List Input → Type 0
DroveOn old new inputs = Closes old new inputs ⊎ GivesUp old new inputs
