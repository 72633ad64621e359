-- What a seat has taken, as it goes back.
use Rattle.std.specs.Prelude.{◌≡◌}
use Rattle.ng_machine.specs.Desk.{job_of}
use Rattle.ng_machine.specs.Run.{RunState}
use Rattle.ng_machine.specs.State.{State}
use Rattle.ng_queue.specs.pending.Holds.{IsOutIn}
use Rattle.ng_core_state.specs.step.Boxes.{IsAloneIn}
use Rattle.ng_core_state.specs.declared.handed.Work.{Work}
use Rattle.ng_core_state.specs.Handed.{item_of, job_with}

-- its item is taken, no other writer of its node is, and it is what the item asks for now
pub record IsAwayWith {B : Type 0} (state : B → State) (a : RunState) (work : Work B) : Type 0 where
  pub out : IsOutIn a (item_of work)
  pub alone : IsAloneIn a (item_of work)
  pub job : job_of a.world (item_of work) ≡ job_with state work
