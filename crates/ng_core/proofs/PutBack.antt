-- What a seat has taken goes back.
use Rattle.std.proofs.Common.{◌≡◌, ◌∙◌, inr, ℕ, List, length, Bool, true, false, sym, ap, subst, arith}
use Rattle.std.proofs.lemmas.List.{get_or-set_same, set-get_or}
use Rattle.std.specs.Prelude.{set, ◌&&◌}
use Rattle.ng_base.specs.declared.ids.NodeId.{NodeId}
use Rattle.ng_machine.specs.declared.body.Body.{Body}
use Rattle.ng_machine.specs.declared.body.Body.TheVariants.{Frame, Msg, Join2, Join3, Undo, Leave, Rebind, Tick, Learn}
use Rattle.ng_machine.specs.declared.hook.Hook.{Hook}
use Rattle.ng_machine.specs.declared.plan.Plan.{Plan}
use Rattle.ng_machine.specs.Effect.{class_of, is_hook_gone}
use Rattle.ng_machine.specs.State.{kind_of, way_of}
use Rattle.ng_machine.proofs.NodeLists.{given_number}
use Rattle.ng_core_state.proofs.BoxesHome.{stands_home}
use Rattle.std.specs.declared.option.Option.{Option}
use Rattle.std.specs.declared.option.Option.TheVariants.{None, Some}
use Rattle.ng_machine.specs.declared.item.Item.{Item}
use Rattle.ng_machine.specs.Desk.{Job, Within, Reads, Writes, body_job, frame_job, is_of_kind, job_at, job_of, job_unless_gone, learn_job, writes_if}
use Rattle.ng_machine.specs.Run.{RunState}
use Rattle.ng_machine.specs.State.{State as NodeState}
use Rattle.ng_machine.specs.Words.{Has}
use Rattle.ng_machine.specs.World.{NodeRecord, kind_at, linked_hook, node_at, node_in, state_of}
use Rattle.ng_queue.specs.pending.Holds.{in_world}
use Rattle.ng_machine.specs.story.DeskLaws.{IsOrderlySoFar}
use Rattle.ng_machine.specs.story.Desks.{IsAtWork, IsJobNow, story_job}
use Rattle.ng_machine.specs.story.Story.{Story, run_state_of}
use Rattle.ng_machine.proofs.story.AtWork.{jobs_stand}
use Rattle.ng_topology.specs.Topology.{give_box, is_home, with_kept}
use Rattle.ng_core_state.specs.declared.handed.Work.{Work}
use Rattle.ng_core_state.specs.declared.handed.Work.TheVariants.{Read, Write, Inside}
use Rattle.ng_core_state.specs.declared.state.State.{State}
use Rattle.ng_core_state.specs.Handed.{item_of, job_with}
use Rattle.ng_core_state.specs.Stands.{MayLeave, Stands}
use Rattle.ng_core_state.specs.step.Boxes.{IsAloneIn, LeavesBox}
use Rattle.ng_core_state.proofs.step.Homes.{box_is_home}
use Rattle.ng_core.specs.Away.{IsAwayWith}
use Rattle.ng_core.proofs.Working.{alone_in, taken_out}

-- the job is that of the work's item
working_with : {B : Type 0} (state : B → NodeState) (at : RunState) (seat : ℕ) (work : Work B) → IsJobNow at seat (job_with state work) → IsAtWork at seat (item_of work) (job_with state work)
working_with state at seat (Read item plan) J = J
working_with state at seat (Write item node) J = J
working_with state at seat (Inside item) J = J

pub at_work_with : {B : Type 0} (state : B → NodeState) (s : Story) (seat : ℕ) (work : Work B) → IsOrderlySoFar s → job_with state work ≡ story_job s seat → IsAtWork (run_state_of s) seat (item_of work) (job_with state work)
at_work_with state s seat work J e = working_with state (run_state_of s) seat work (subst (IsJobNow (run_state_of s) seat) (sym e) (jobs_stand s seat J))

pub is_away : {B : Type 0} (state : B → NodeState) (s : Story) (seat : ℕ) (work : Work B) → IsOrderlySoFar s → job_with state work ≡ story_job s seat → IsAwayWith state (run_state_of s) work
is_away state s seat work J e =
    let W = at_work_with state s seat work J e in record {
      out = (W.pending, taken_out (item_of work) seat (run_state_of s).taken W.taken);
      alone = alone_in s (item_of work) seat J W.pending W.taken;
      job = W.job_is;
    }

-- an item that isn't worked on with the box may leave
writes_not : (item : Item) (node : NodeRecord) (job : Job) → job_at item (Some node) ≡ job → ((state : NodeState) → job ≡ Writes item state → ⊥) → LeavesBox item node
writes_not item node job is other state e = other state (sym is ∙ e)

pub may_leave : {B : Type 0} (s : State B) (a : RunState) (item : Item) (job : Job) → Stands s a → Has item a.world.pending → IsAloneIn a item → job_of a.world item ≡ job → ((state : NodeState) → job ≡ Writes item state → ⊥) → MayLeave s.graph item
may_leave s a item job S h only is other =
    let t = S.there item h in
    let here : node_in s.graph.nodes item.to ≡ Some t.0 = ap (λ (l : List (Option NodeRecord)). node_in l item.to) S.graph.nodes ∙ t.1 in
    inr (box_is_home s a item t.0 S only here (writes_not item t.0 job (ap (λ (o : Option NodeRecord). job_at item o) (sym t.1) ∙ is) other))

pub not_read : (item other : Item) (plan : _) (state : NodeState) → Reads item plan ≡ Writes other state → ⊥
not_read item other plan state e = cc

pub not_within : (item other : Item) (state : NodeState) → Within item ≡ Writes other state → ⊥
not_within item other state e = cc

-- a box that comes home as it went changes nothing
pub stands_restored : {B : Type 0} (s t : State B) (a : RunState) (at : NodeId) (node : NodeRecord) (state : NodeState) → Stands s a → node_at a.world at ≡ Some node → state ≡ state_of node
    → t.graph ≡ give_box s.graph at state → t.pending ≡ s.pending → t.told.items ≡ s.told.items → t.ports.items ≡ s.ports.items → Stands t a
stands_restored s t a at node state S here is graph pending told ports =
    let N = stands_home s t a at node state S here (ap kind_of is) graph pending told ports in
    let same : set a.world.nodes at.0 (Some (with_kept state.kept node)) ≡ a.world.nodes =
    ap (λ (x : NodeState). set a.world.nodes at.0 (Some (with_kept x.kept node))) is ∙ ap (λ (o : Option NodeRecord). set a.world.nodes at.0 o) (sym here) ∙ set-get_or a.world.nodes at.0 None in
    subst (λ (l : List (Option NodeRecord)). Stands t (in_world a (record a.world { nodes = l }))) same N

-- what is written on is the node's state
frame_state : (item : Item) (node : NodeRecord) (state : NodeState) (o : Option Plan) → frame_job item (state_of node) o ≡ Writes item state → state ≡ state_of node
frame_state item node state None e = let s : state ≡ state_of node = cc in s
frame_state item node state (Some plan) e = absurd (cc)

message_state : (item : Item) (node : NodeRecord) (state : NodeState) (b : Bool) → writes_if b item (state_of node) ≡ Writes item state → state ≡ state_of node
message_state item node state true e = let s : state ≡ state_of node = cc in s
message_state item node state false e = absurd (cc)

learn_state : (item : Item) (node : NodeRecord) (state : NodeState) (o : Option Hook) → learn_job item (state_of node) o ≡ Writes item state → state ≡ state_of node
learn_state item node state None e = absurd (cc)
learn_state item node state (Some hook) e = let s : state ≡ state_of node = cc in s

body_state : (item : Item) (node : NodeRecord) (state : NodeState) (body : Body) → body_job item node body ≡ Writes item state → state ≡ state_of node
body_state item node state (Frame door link packet) e = frame_state item node state (way_of (state_of node)) e
body_state item node state (Msg msg) e = message_state item node state (item.writer && is_of_kind (class_of (kind_at node) msg)) e
body_state item node state (Tick seconds) e = let s : state ≡ state_of node = cc in s
body_state item node state (Learn hook link addr) e = learn_state item node state (linked_hook node hook link) e
body_state item node state (Join2 hook link peer peer_hook) e = absurd (cc)
body_state item node state (Join3 hook link) e = absurd (cc)
body_state item node state (Undo hook link errno) e = absurd (cc)
body_state item node state (Leave hook link) e = absurd (cc)
body_state item node state (Rebind hook old new peer peer_hook) e = absurd (cc)

gone_state : (item : Item) (node : NodeRecord) (state : NodeState) (b : Bool) → job_unless_gone b item node ≡ Writes item state → state ≡ state_of node
gone_state item node state true e = absurd (cc)
gone_state item node state false e = body_state item node state item.body e

pub written_state : (item : Item) (node : NodeRecord) (state : NodeState) → job_at item (Some node) ≡ Writes item state → state ≡ state_of node
written_state item node state e = gone_state item node state (is_hook_gone (Some node) item.body) e

-- a writer's box goes home, and is there then
pub home_restored : {B : Type 0} (s : State B) (a : RunState) (at : NodeId) (node : NodeRecord) (state : NodeState) → Stands s a → node_at a.world at ≡ Some node → is_home (give_box s.graph at state) at ≡ true
home_restored s a at node state S here =
    let lt = given_number a.world.nodes at.0 node here in
    let homes = S.homes in
    let nodes = ap (λ (l : List (Option NodeRecord)). length l) S.graph.nodes in
    get_or-set_same s.graph.home at.0 true false (omega arith)
