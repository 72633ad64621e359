-- A packet that is next.
use Rattle.std.proofs.Common.{◌≡◌, ◌∙◌, ◌&&◌, Bool, true, false, is_some, refl, sym, ap, subst, true≢false}
use Rattle.std.specs.declared.option.Option.{Option}
use Rattle.std.specs.declared.option.Option.TheVariants.{None, Some}
use Rattle.ng_machine.specs.declared.body.Body.{Body}
use Rattle.ng_machine.specs.declared.body.Body.TheVariants.{Frame, Msg, Join2, Join3, Undo, Leave, Rebind, Tick, Learn}
use Rattle.ng_machine.specs.declared.hook.Hook.{Hook}
use Rattle.ng_machine.specs.declared.item.Item.{Item}
use Rattle.ng_machine.specs.declared.outcome.Outcome.{Outcome}
use Rattle.ng_machine.specs.declared.plan.Plan.{Plan}
use Rattle.ng_machine.specs.Body.{is_frame}
use Rattle.ng_machine.specs.Desk.{Reads, body_job, frame_job, is_of_kind, job_at, job_of, job_unless_gone, learn_job, writes_if}
use Rattle.ng_machine.specs.Effect.{class_of, is_hook_gone}
use Rattle.ng_machine.specs.Run.{RunState}
use Rattle.ng_machine.specs.State.{State as NodeState, way_of}
use Rattle.ng_machine.specs.World.{NodeRecord, kind_at, linked_hook, node_at, state_of}
use Rattle.ng_queue.specs.pending.Holds.{with_taken}
use Rattle.ng_queue.proofs.pending.HeldItems.{next_held, out_next}
use Rattle.ng_queue.specs.Queue.{head}
use Rattle.ng_queue.specs.Queues.{IsLeast, list_at}
use Rattle.ng_core_state.specs.step.Applied.{IsAtNode}
use Rattle.ng_machine.specs.story.Story.{IsNext}
use Rattle.ng_machine.specs.story.Work.{IsEvaluated}
use Rattle.ng_topology.specs.Topology.{is_home}
use Rattle.ng_core_state.specs.declared.state.State.{State}
use Rattle.ng_core_state.specs.Stands.{Stands}
use Rattle.ng_core_state.proofs.ServedItems.{head_node}
use Rattle.ng_core_state.proofs.TakenItems.{item_node, least_home, least_node, same_some}
use Rattle.ng_core_state.specs.service.Work.{IsForPlanAt, IsReadAt}

-- WHAT A PLAN WORKS ON IS A PACKET

writes_no_plan : (b : Bool) (item : Item) (state : NodeState) (plan : Plan) → writes_if b item state ≡ Reads item plan → ⊥
writes_no_plan true item state plan e = cc
writes_no_plan false item state plan e = cc

learns_no_plan : (o : Option Hook) (item : Item) (state : NodeState) (plan : Plan) → learn_job item state o ≡ Reads item plan → ⊥
learns_no_plan None item state plan e = cc
learns_no_plan (Some hook) item state plan e = cc

reads_body : (body : Body) (item : Item) (node : NodeRecord) (plan : Plan) → body_job item node body ≡ Reads item plan → is_frame body ≡ true
reads_body (Frame door link packet) item node plan e = refl
reads_body (Msg msg) item node plan e = absurd (writes_no_plan (item.writer && is_of_kind (class_of (kind_at node) msg)) item (state_of node) plan e)
reads_body (Tick seconds) item node plan e = absurd (cc)
reads_body (Learn hook link addr) item node plan e = absurd (learns_no_plan (linked_hook node hook link) item (state_of node) plan e)
reads_body (Join2 hook link peer peer_hook) item node plan e = absurd (cc)
reads_body (Join3 hook link) item node plan e = absurd (cc)
reads_body (Undo hook link errno) item node plan e = absurd (cc)
reads_body (Leave hook link) item node plan e = absurd (cc)
reads_body (Rebind hook old new peer peer_hook) item node plan e = absurd (cc)

reads_unless : (gone : Bool) (item : Item) (node : NodeRecord) (plan : Plan) → job_unless_gone gone item node ≡ Reads item plan → is_frame item.body ≡ true
reads_unless true item node plan e = absurd (cc)
reads_unless false item node plan e = reads_body item.body item node plan e

pub reads_frame : (item : Item) (o : Option NodeRecord) (plan : Plan) → job_at item o ≡ Reads item plan → is_frame item.body ≡ true
reads_frame item None plan e = absurd (cc)
reads_frame item (Some node) plan e = reads_unless (is_hook_gone (Some node) item.body) item node plan e

-- THE HEAD OF THE QUEUE THAT IS THE LEAST

planned_frame : (item : Item) (found : Option NodeRecord) (state : NodeState) (o : Option Plan) → is_some o ≡ true → job_at item found ≡ frame_job item state o → is_frame item.body ≡ true
planned_frame item found state None there job = absurd (true≢false (sym there))
planned_frame item found state (Some plan) there job = reads_frame item found plan job

pub head_frame : {B : Type 0} (s : State B) (a : RunState) (at : _) (item : Item) → Stands s a → IsLeast s.pending.queues.lists at → head (list_at s.pending.queues.lists at) ≡ Some item → IsForPlanAt s at → is_frame item.body ≡ true
head_frame s a at item S least e reads =
    let P = head_node s a at item S least e in
    let R = reads a item P.node S e P.node_is in
    planned_frame item (node_at a.world item.to) (state_of P.node) (way_of (state_of P.node)) R.planned R.job_is

-- the head's job, by the plan of its node
pub head_job : {B : Type 0} (s : State B) (a : RunState) (at : _) (item : Item) (plan : Plan) → Stands s a → IsLeast s.pending.queues.lists at → head (list_at s.pending.queues.lists at) ≡ Some item → IsForPlanAt s at
    → ((node : NodeRecord) → node_at a.world item.to ≡ Some node → way_of (state_of node) ≡ Some plan) → job_of a.world item ≡ Reads item plan
head_job s a at item plan S least e reads way =
    let P = head_node s a at item S least e in
    let R = reads a item P.node S e P.node_is in
    R.job_is ∙ ap (frame_job item (state_of P.node)) (way P.node P.node_is)

pub head_read : {B : Type 0} (s : State B) (a : RunState) (at : _) (item : Item) (plan : Plan) (outcome : Outcome) → Stands s a → IsLeast s.pending.queues.lists at → head (list_at s.pending.queues.lists at) ≡ Some item
    → job_of a.world item ≡ Reads item plan → IsEvaluated plan item.body outcome → (node : NodeRecord) × (node_at a.world item.to ≡ Some node) × IsReadAt item node outcome
head_read s a at item plan outcome S least e job is =
    let L = least_node s a at S least in
    let same = same_some L.item item (sym L.head_is ∙ e) in
    let here : node_at a.world item.to ≡ Some L.at.node = subst (λ (x : Item). node_at a.world x.to ≡ Some L.at.node) same L.at.node_is in
    (L.at.node, here, record { plan = plan; job = sym (ap (job_at item) here) ∙ job; evaluated = is })

-- once it is taken it is at its node
pub next_at : {B : Type 0} (s : State B) (a : RunState) (item : Item) (node : NodeRecord) (seat : _) → Stands s a → IsNext a item → node_at a.world item.to ≡ Some node → IsAtNode (with_taken a item.id.0 seat) item node
next_at s a item node seat S N here = record { sorted = S.items.sorted; out = (N.may.pending, out_next a item seat N); here = here }

pub next_is : {B : Type 0} (s : State B) (a : RunState) (at : _) (item : Item) → Stands s a → IsLeast s.pending.queues.lists at → head (list_at s.pending.queues.lists at) ≡ Some item → IsNext a item
next_is s a at item S least e = (next_held s.pending a at item S.items least e).0

pub next_home : {B : Type 0} (s : State B) (a : RunState) (at : _) (item : Item) → Stands s a → IsLeast s.pending.queues.lists at → head (list_at s.pending.queues.lists at) ≡ Some item → is_home s.graph item.to ≡ true
next_home s a at item S least e =
    let N = next_is s a at item S least e in
    let P = item_node s a item S N.may.pending in
    least_home s a item P.node S N.may P.here
