-- What comes of a job, and of a node that an applied item removes.
use Rattle.std.specs.Prelude.{◌≡◌, Option, Some, None}
use Rattle.ng_machine.specs.declared.body.Body.{Body}
use Rattle.ng_machine.specs.declared.body.Body.TheVariants.{Frame, Msg, Join2, Join3, Undo, Leave, Rebind, Tick, Learn}
use Rattle.ng_machine.specs.declared.item.Item.{Item}
use Rattle.ng_machine.specs.declared.outcome.Outcome.{Outcome}
use Rattle.ng_machine.specs.declared.plan.Plan.{Plan}
use Rattle.ng_machine.specs.Case.{eval, kept_after, outcome_of}
use Rattle.ng_machine.specs.State.{State}
use Rattle.ng_machine.specs.World.{NodeRecord, state_of}
use Rattle.ng_machine.specs.Desk.{Job, Reads, Writes, Within}

-- what a seat hands in: the outcome of a packet by a plan; a node's state after its work, with the outcome; or the item alone
pub data Handed : Type 0 where
  Evaluated : Item → Outcome → Handed
  Written : Item → State → Outcome → Handed
  Untouched : Item → Handed

abbrev pub item_handed : Handed → Item
item_handed (Evaluated item outcome) = item
item_handed (Written item state outcome) = item
item_handed (Untouched item) = item

-- what came of a packet is what the plan says
abbrev pub IsEvaluated : Plan → Body → Outcome → Type 0
IsEvaluated plan (Frame door link packet) outcome = outcome ≡ eval plan door packet
IsEvaluated plan (Msg msg) outcome = ⊥
IsEvaluated plan (Join2 hook link peer peer_hook) outcome = ⊥
IsEvaluated plan (Join3 hook link) outcome = ⊥
IsEvaluated plan (Undo hook link errno) outcome = ⊥
IsEvaluated plan (Leave hook link) outcome = ⊥
IsEvaluated plan (Rebind hook old new peer peer_hook) outcome = ⊥
IsEvaluated plan (Tick seconds) outcome = ⊥
IsEvaluated plan (Learn hook link addr) outcome = ⊥

-- the state after and the outcome are those of the case table
pub record IsWritten (before : State) (body : Body) (now : State) (outcome : Outcome) : Type 0 where
  pub after : now ≡ record before { kept = kept_after before body }
  pub outcome_is : outcome ≡ outcome_of before body

-- what is handed in is what comes of the job
abbrev pub IsDone : Job → Handed → Type 0
IsDone job (Evaluated item outcome) = (plan : Plan) × (job ≡ Reads item plan) × IsEvaluated plan item.body outcome
IsDone job (Written item state outcome) = (before : State) × (job ≡ Writes item before) × IsWritten before item.body state outcome
IsDone job (Untouched item) = job ≡ Within item

-- the state of a node that was there before and is removed now
abbrev pub removed_state : Option NodeRecord → Option NodeRecord → Option State
removed_state None now = None
removed_state (Some before) None = Some (state_of before)
removed_state (Some before) (Some now) = None
