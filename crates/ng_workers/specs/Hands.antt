-- What a seat has in hand between its holdings of the core.
use Rattle.std.specs.Prelude.{◌≡◌, false, List, Option, Some, None}
use Rattle.ng_machine.specs.declared.input.Input.{Input}
use Rattle.ng_machine.specs.Desk.{SeatDesk, Idle}
use Rattle.ng_machine.specs.State.{State}
use Rattle.ng_workers.specs.pool.Workable.{IsWorkable}
use Rattle.ng_machine.specs.story.Work.{IsDone}
use Rattle.ng_core_state.specs.declared.handed.Done.{Done}
use Rattle.ng_core_state.specs.declared.handed.Work.{Work}
use Rattle.ng_core_state.specs.Handed.{handed_with, job_with}
use Rattle.ng_workers.specs.declared.feeder.Feeder.{Feeder}
use Rattle.ng_workers.specs.declared.next.Next.{Next}
use Rattle.ng_workers.specs.declared.next.Next.TheVariants as next
use Rattle.ng_workers.specs.Desks.{IsOver}
use Rattle.ng_workers.specs.Driving.{Drives, DroveOn, MayFeed}

-- P is so where there is nothing to be taken
abbrev pub IfNothing : {W : Type 0} → Next W → Type 0 → Type 0
IfNothing (next.Taken work) P = Unit {0}
IfNothing next.Nothing P = P
IfNothing next.End P = Unit {0}

-- P is so of a seat that is over
abbrev pub IfEnd : {W : Type 0} → Next W → Type 0 → Type 0
IfEnd (next.Taken work) P = Unit {0}
IfEnd next.Nothing P = Unit {0}
IfEnd next.End P = P

-- the seat 0 fed some of the inputs and goes on, and the others may be fed; or it is over
abbrev pub Drove : {W : Type 0} → Next W → SeatDesk → SeatDesk → List Input → Feeder → Type 0
Drove (next.Taken work) old new inputs left = Drives old new inputs left.unfed None × MayFeed left new
Drove next.Nothing old new inputs left = Drives old new inputs left.unfed None × MayFeed left new
Drove next.End old new inputs left = DroveOn old new inputs

module _ {B : Type 0} (state : B → State) where
  -- what it hands in is what came of the work that its desk names
  abbrev pub Brings : Option (Done B) → SeatDesk → Type 0
  Brings None desk = desk.job ≡ Idle
  Brings (Some done) desk = IsDone desk.job (handed_with state done)

  -- it goes on with the work that its desk names, or with nothing; or it is over
  abbrev pub Takes : Next (Work B) → SeatDesk → Type 0
  Takes (next.Taken work) desk = (desk.gave_up ≡ false) × (desk.job ≡ job_with state work) × IsWorkable (job_with state work)
  Takes next.Nothing desk = (desk.gave_up ≡ false) × (desk.job ≡ Idle)
  Takes next.End desk = IsOver desk
