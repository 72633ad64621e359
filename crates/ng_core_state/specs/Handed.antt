-- What a seat is handed, by its job, and what it hands in.
use Rattle.std.specs.Prelude.{◌≡◌, IsSome}
use Rattle.std.specs.Arc.{arc_value}
use Rattle.ng_machine.specs.declared.item.Item.{Item}
use Rattle.ng_machine.specs.Desk.{Job, Within, Reads, Writes, frame_job}
use Rattle.ng_machine.specs.State.{State, way_of}
use Rattle.ng_machine.specs.World.{NodeRecord, state_of}
use Rattle.ng_core_state.specs.declared.handed.Work.{Work}
use Rattle.ng_core_state.specs.declared.handed.Work.TheVariants.{Read, Write, Inside}
use Rattle.ng_machine.specs.story.Work.{Handed, Evaluated, Written, Untouched}
use Rattle.ng_core_state.specs.declared.handed.Done.{Done}
use Rattle.ng_core_state.specs.declared.handed.Done.TheVariants as done
use Rattle.ng_core_state.specs.declared.handed.Tool.{Tool}
use Rattle.ng_core_state.specs.declared.handed.Tool.TheVariants.{Plan, Node, Nothing}

abbrev pub item_of : {B : Type 0} → Work B → Item
item_of (Read item plan) = item
item_of (Write item node) = item
item_of (Inside item) = item

-- the job that the work is
abbrev pub job_with : {B : Type 0} → (B → State) → Work B → Job
job_with state (Read item plan) = Reads item (arc_value plan)
job_with state (Write item node) = Writes item (state node)
job_with state (Inside item) = Within item

-- the job of an item that the plan of its node works on, which has one
pub record IsForPlan (item : Item) (node : NodeRecord) (job : Job) : Type 0 where
  pub planned : IsSome (way_of (state_of node))
  pub job_is : job ≡ frame_job item (state_of node) (way_of (state_of node))

-- the job of an item that is worked on with this, at a node
abbrev pub IsJobBy : Tool → Item → NodeRecord → Job → Type 0
IsJobBy Plan item node job = IsForPlan item node job
IsJobBy Node item node job = job ≡ Writes item (state_of node)
IsJobBy Nothing item node job = job ≡ Within item

abbrev pub item_done : {B : Type 0} → Done B → Item
item_done (done.Read item outcome) = item
item_done (done.Write item node outcome) = item
item_done (done.Inside item) = item

-- what is handed in, in the words of the contracts
abbrev pub handed_with : {B : Type 0} → (B → State) → Done B → Handed
handed_with state (done.Read item outcome) = Evaluated item outcome
handed_with state (done.Write item node outcome) = Written item (state node) outcome
handed_with state (done.Inside item) = Untouched item
