-- What a seat hands in: what came of a packet by its plan, or of a writer on its node's box; or a message that its node answers.
use Rattle.std.specs.Prelude.{◌≡◌, ℕ, true, Some}
use Rattle.ng_base.specs.declared.ids.ItemId.{ItemId}
use Rattle.ng_message.specs.Numbers.{is_reader_number}
use Rattle.ng_message.specs.declared.message.Msg.{Msg as Message}
use Rattle.ng_machine.specs.declared.body.Body.TheVariants.{Msg}
use Rattle.ng_machine.specs.Effect.{OfKind, class_of}
use Rattle.ng_machine.specs.declared.item.Item.{Item}
use Rattle.ng_machine.specs.declared.outcome.Outcome.{Outcome}
use Rattle.ng_machine.specs.declared.plan.Plan.{Plan}
use Rattle.ng_machine.specs.Desk.{Reads, Writes, job_at, job_of}
use Rattle.ng_machine.specs.Run.{RunState}
use Rattle.ng_machine.specs.State.{State as NodeState}
use Rattle.ng_machine.specs.World.{NodeRecord, kind_at, node_at}
use Rattle.ng_queue.specs.pending.Holds.{with_taken}
use Rattle.ng_queue.specs.Queue.{head}
use Rattle.ng_queue.specs.Queues.{list_at}
use Rattle.ng_core_state.specs.step.Applied.{applied_from}
use Rattle.ng_machine.specs.story.Story.{IsNext}
use Rattle.ng_machine.specs.story.Work.{IsEvaluated, IsWritten}
use Rattle.ng_core_state.specs.declared.state.State.{State}
use Rattle.ng_core_state.specs.Handed.{IsForPlan}
use Rattle.ng_core_state.specs.Stands.{Stands}

-- the item is a packet for the node's plan, and this is what came of it
pub record IsReadAt (item : Item) (node : NodeRecord) (outcome : Outcome) : Type 0 where
  pub plan : Plan
  pub job : job_at item (Some node) ≡ Reads item plan
  pub evaluated : IsEvaluated plan item.body outcome

-- the item is for the node's box, and this is the box's state after it, and what came of it
pub record IsWrittenAt (item : Item) (node : NodeRecord) (now : NodeState) (outcome : Outcome) : Type 0 where
  pub before : NodeState
  pub job : job_at item (Some node) ≡ Writes item before
  pub written : IsWritten before item.body now outcome

-- the item is a message of its node's own type that reads
pub record IsOwnAt (item : Item) (node : NodeRecord) : Type 0 where
  pub msg : Message
  pub body : item.body ≡ Msg msg
  pub own : class_of (kind_at node) msg ≡ OfKind
  pub reads : is_reader_number msg.header.cmd ≡ true

-- the head of that queue is a packet that its node's plan works on
abbrev pub IsForPlanAt : {B : Type 0} → State B → ℕ → Type 0
IsForPlanAt s at = (a : RunState) (item : Item) (node : NodeRecord) → Stands s a → head (list_at s.pending.queues.lists at) ≡ Some item
    → node_at a.world item.to ≡ Some node → IsForPlan item node (job_of a.world item)

-- the packet of this number is at the head of that queue, and this is what its node's plan makes of it
pub record IsWorkedOn {B : Type 0} (a : RunState) (s : State B) (at : ℕ) (id : ItemId) (outcome : Outcome) : Type 0 where
  pub item : Item
  pub first : head (list_at s.pending.queues.lists at) ≡ Some item
  pub number : item.id ≡ id
  pub plan : Plan
  pub job : job_of a.world item ≡ Reads item plan
  pub evaluated : IsEvaluated plan item.body outcome

-- the packet of this number was next, its node's plan works on it, and what is kept stands for the run in which the seat took and applied it
pub record IsServed {B : Type 0} (a : RunState) (now : State B) (seat : ℕ) (id : ItemId) : Type 0 where
  pub item : Item
  pub number : item.id ≡ id
  pub next : IsNext a item
  pub plan : Plan
  pub job : job_of a.world item ≡ Reads item plan
  pub stands : Stands now (applied_from (with_taken a item.id.0 seat) item)
