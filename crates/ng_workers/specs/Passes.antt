-- What the pass of a seat says after the seat's holdings.
use Rattle.std.specs.Prelude.{◌≡◌, ◌⊎◌, ℕ, zero, suc, false, List, Option, None}
use Rattle.ng_machine.specs.declared.input.Input.{Input}
use Rattle.ng_machine.specs.Desk.{SeatDesk}
use Rattle.ng_machine.specs.State.{State}
use Rattle.ng_core.specs.CoreStory.{CoreStory}
use Rattle.ng_machine.specs.story.Desks.{no_desk}
use Rattle.ng_turn.specs.declared.pass.Pass.{Pass}
use Rattle.ng_turn.specs.declared.turn.Turn.{Turn}
use Rattle.ng_turn.specs.Words.{EachPass, IsPass, desk_of, seat_of}
use Rattle.ng_core_state.specs.declared.handed.Done.{Done}
use Rattle.ng_workers.specs.declared.feeder.Feeder.{Feeder}
use Rattle.ng_workers.specs.declared.step.Step.{Step}
use Rattle.ng_workers.specs.declared.step.Step.TheVariants.{Goes, Ends}
use Rattle.ng_workers.specs.Desks.{Grew, IsOver, IsReady, core_desk}
use Rattle.ng_workers.specs.Driving.{Drives, DroveOn, IsOpenFor, MayFeed}
use Rattle.ng_workers.specs.Hands.{Brings}

-- the seat 0 has the inputs to feed
abbrev pub may_drive : List Input → ℕ → SeatDesk → Type 0
may_drive inputs zero d = IsOpenFor inputs d
may_drive inputs (suc n) d = Unit {0}

-- the seat 0 drove, and each other worked
abbrev pub did_part : List Input → ℕ → SeatDesk → SeatDesk → Type 0
did_part inputs zero old new = DroveOn old new inputs
did_part inputs (suc n) old new = Grew old new × IsOver new

module _ {C : Type 0} where
  abbrev pub IsOf : Turn C SeatDesk → Pass C SeatDesk → Type 0
  IsOf turn pass = IsPass no_desk turn pass

  abbrev pub desk : Pass C SeatDesk → SeatDesk
  desk pass = desk_of no_desk pass

  -- the pass of the same seat, whose desk grew
  abbrev pub Grows : Pass C SeatDesk → Pass C SeatDesk → Type 0
  Grows old new = (seat_of new ≡ seat_of old) × Grew (desk old) (desk new)

  -- the pass that a step gives back
  abbrev pub pass_of : {D : Type 0} → Step (Pass C SeatDesk) D → Pass C SeatDesk
  pass_of (Goes pass done) = pass
  pass_of (Ends pass) = pass

  -- the seat goes on with what it brings, or it is over
  abbrev pub Leaves : {B : Type 0} → (B → State) → Step (Pass C SeatDesk) (Option (Done B)) → Type 0
  Leaves state (Goes pass done) = ((desk pass).gave_up ≡ false) × Brings state done (desk pass)
  Leaves state (Ends pass) = IsOver (desk pass)

  -- the same of the seat 0, which fed some of the inputs; the others may be fed if it goes on
  abbrev pub DroveStep : {D : Type 0} → SeatDesk → List Input → Feeder → Step (Pass C SeatDesk) D → Type 0
  DroveStep old inputs left (Goes pass done) = Drives old (desk pass) inputs left.unfed None × MayFeed left (desk pass)
  DroveStep old inputs left (Ends pass) = DroveOn old (desk pass) inputs

  -- P is so of the pass of a seat that is over
  abbrev pub IfEnds : {D : Type 0} → Step (Pass C SeatDesk) D → (Pass C SeatDesk → Type 0) → Type 0
  IfEnds (Goes pass done) P = Unit {0}
  IfEnds (Ends pass) P = P pass

  abbrev pub IsReadyPass : Turn C SeatDesk → List Input → ℕ → Pass C SeatDesk → Type 0
  IsReadyPass turn inputs seat pass =
      IsOf turn pass × (seat_of pass ≡ seat) × IsReady seat (desk pass) × may_drive inputs seat (desk pass)

  -- the pass of this seat, which had the desk of this core when the seats began
  abbrev pub IsBackFrom : Turn C SeatDesk → CoreStory → List Input → ℕ → Pass C SeatDesk → Type 0
  IsBackFrom turn core inputs seat pass = IsOf turn pass × (seat_of pass ≡ seat) × did_part inputs seat (core_desk core seat) (desk pass)

  -- so is each pass, in the order of the seats
  abbrev pub AreReady : Turn C SeatDesk → List Input → List (Pass C SeatDesk) → Type 0
  AreReady turn inputs passes = EachPass (IsReadyPass turn inputs) passes

  abbrev pub AreDesksOf : CoreStory → List (Pass C SeatDesk) → Type 0
  AreDesksOf core passes = EachPass (λ seat pass. desk pass ≡ core_desk core seat) passes

  abbrev pub AreBackFrom : Turn C SeatDesk → CoreStory → List Input → List (Pass C SeatDesk) → Type 0
  AreBackFrom turn core inputs passes = EachPass (IsBackFrom turn core inputs) passes
