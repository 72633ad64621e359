-- A writer on its node's box: what its item does.
use Rattle.std.proofs.Common.{◌≡◌, ℕ, List, [], ◌∷◌, ◌++◌, Bool, true, false, not, set, get_or, is_some, refl, sym, ap, ◌∙◌, subst, true≢false}
use Rattle.std.specs.Prelude.{◌&&◌}
use Rattle.std.proofs.lemmas.Bool.{and_parts}
use Rattle.std.specs.declared.option.Option.{Option}
use Rattle.std.specs.declared.option.Option.TheVariants.{None, Some}
use Rattle.ng_message.specs.declared.message.Msg.{Msg as Message}
use Rattle.ng_machine.specs.declared.body.Body.{Body}
use Rattle.ng_machine.specs.declared.body.Body.TheVariants.{Frame, Msg, Join2, Join3, Undo, Leave, Rebind, Tick, Learn}
use Rattle.ng_machine.specs.declared.body.Door.{Door}
use Rattle.ng_machine.specs.declared.body.Door.TheVariants.{Wire, Hook as ByHook}
use Rattle.ng_machine.specs.declared.hook.Hook.{Hook}
use Rattle.ng_machine.specs.declared.item.Item.{Item}
use Rattle.ng_machine.specs.declared.outcome.Outcome.{Outcome}
use Rattle.ng_machine.specs.declared.plan.Plan.{Plan}
use Rattle.ng_machine.specs.Case.{kept_after, outcome_by_plan, outcome_of, outcome_without_plan}
use Rattle.ng_machine.specs.Change.{Sets, change_all}
use Rattle.ng_machine.specs.Desk.{Writes, body_job, frame_job, is_of_kind, job_unless_gone, learn_job, writes_if}
use Rattle.ng_machine.specs.Effect.{MessageClass, AnAnswer, AnOrder, OfKind, Foreign, becomes, class_of, counts_unless, effect_at, exits, is_fine, is_hook_gone, message_by, posts, reply_changes_if, answered, learn}
use Rattle.ng_machine.specs.Run.{RunState}
use Rattle.ng_machine.specs.State.{KindState, HubState, HoleState, EchoState, SplitState, SocketState, TeeState, One2manyState, BridgeState, VlanState, PatchState, BpfState, EtherState, EtfState, MacsetState, State, kind_of, way_of}
use Rattle.ng_machine.specs.World.{World, NodeRecord, hook_names, kind_at, linked_hook, state_of}
use Rattle.ng_machine.proofs.Owed.{learned_kind, passed_kind, reply_kind, reply_reads, ticked_kind}
use Rattle.ng_message.specs.Numbers.{is_reader_number}
use Rattle.ng_machine.proofs.Refusing.{refused_leaves, reply_quiet}
use Rattle.ng_queue.specs.pending.Holds.{done_from, in_world}
use Rattle.ng_core_state.specs.step.Applied.{IsAtNode, applied_from}
use Rattle.ng_topology.specs.Topology.{FitsNode, with_kept}
use Rattle.ng_topology.proofs.PlaceLemmas.{set_same}
use Rattle.ng_core_state.specs.service.Followers.{followed_by, follows, follows_if, is_refused}
use Rattle.ng_core_state.specs.service.Leaving.{AllMayLeaveBy, arrival_hook}
use Rattle.ng_core_state.specs.service.Work.{IsWrittenAt}
use Rattle.ng_core_state.proofs.service.Changes.{applied_else, applied_set}
use Rattle.ng_core_state.proofs.service.Readings.{door_named, hook_may_all}

-- WHAT THE JOB SAYS

not_gone : (gone : Bool) (item : Item) (node : NodeRecord) (before : State) → job_unless_gone gone item node ≡ Writes item before → gone ≡ false
not_gone false item node before e = refl
not_gone true item node before e = absurd (cc)

pub written_stands : (item : Item) (node : NodeRecord) (now : State) (outcome : Outcome) → IsWrittenAt item node now outcome → is_hook_gone (Some node) item.body ≡ false
written_stands item node now outcome W = not_gone (is_hook_gone (Some node) item.body) item node W.before W.job

written_job : (item : Item) (node : NodeRecord) (now : State) (outcome : Outcome) (W : IsWrittenAt item node now outcome) → body_job item node item.body ≡ Writes item W.before
written_job item node now outcome W = sym (ap (λ (b : Bool). job_unless_gone b item node) (written_stands item node now outcome W)) ∙ W.job

frame_state : (item : Item) (state before : State) (way : Option Plan) → frame_job item state way ≡ Writes item before → (way ≡ None) × (before ≡ state)
frame_state item state before None e = let same : state ≡ before = cc in (refl, sym same)
frame_state item state before (Some p) e = absurd (cc)

message_state : (item : Item) (state before : State) (writes own b : Bool) → (writes && own) ≡ b → writes_if b item state ≡ Writes item before → (own ≡ true) × (before ≡ state)
message_state item state before writes own true is e = let same : state ≡ before = cc in ((and_parts writes own is).1, sym same)
message_state item state before writes own false is e = absurd (cc)

learn_state : (item : Item) (state before : State) (hook : Option Hook) → learn_job item state hook ≡ Writes item before → (is_some hook ≡ true) × (before ≡ state)
learn_state item state before None e = absurd (cc)
learn_state item state before (Some h) e = let same : state ≡ before = cc in (refl, sym same)

of_kind : (c : MessageClass) → is_of_kind c ≡ true → c ≡ OfKind
of_kind OfKind e = refl
of_kind AnAnswer e = absurd (true≢false (sym e))
of_kind AnOrder e = absurd (true≢false (sym e))
of_kind Foreign e = absurd (true≢false (sym e))

-- WHICH WAY PACKETS MAY LEAVE: of a one2many and of a writer that is no packet none leaves

wire_may : (kept : KindState) (hooks : List (List ℕ)) (packet : List ℕ) → AllMayLeaveBy None (outcome_without_plan kept hooks Wire packet).leaves
wire_may (TeeState rows) hooks packet = tt
wire_may (BridgeState s) hooks packet = tt
wire_may (BpfState s) hooks packet = tt
wire_may (EtfState s) hooks packet = tt
wire_may (MacsetState s) hooks packet = tt
wire_may (HubState persistent) hooks packet = tt
wire_may HoleState hooks packet = tt
wire_may EchoState hooks packet = tt
wire_may SplitState hooks packet = tt
wire_may SocketState hooks packet = tt
wire_may (VlanState s) hooks packet = tt
wire_may (PatchState ops) hooks packet = tt
wire_may (EtherState s) hooks packet = tt
wire_may (One2manyState s) hooks packet = tt

door_may : (kept : KindState) (hooks : List (List ℕ)) (door : Door) (link : _) (packet : List ℕ) → AllMayLeaveBy (arrival_hook (Frame door link packet)) (outcome_without_plan kept hooks door packet).leaves
door_may kept hooks Wire link packet = wire_may kept hooks packet
door_may kept hooks (ByHook hook) link packet = hook_may_all hook (outcome_without_plan kept hooks (ByHook hook) packet).leaves

-- WHAT IS SO OF A BODY THAT WROTE

-- what the item does, by whether it is refused
abbrev EffectIf : Bool → World → Item → NodeRecord → Body → Outcome → Type 0
EffectIf true w item node body out = (kept_after (state_of node) body ≡ node.kept) × (effect_at w item node body ≡ follows_if true item body out)
EffectIf false w item node body out = effect_at w item node body ≡ Sets (with_kept (kept_after (state_of node) body) node) ∷ follows_if false item body out

record IsWrittenBody (item : Item) (node : NodeRecord) (body : Body) (before : State) : Type 0 where
  state : before ≡ state_of node
  effect : (w : World) (b : Bool) → is_refused body (outcome_of (state_of node) body).errno ≡ b → EffectIf b w item node body (outcome_of (state_of node) body)
  may : AllMayLeaveBy (arrival_hook body) (outcome_of (state_of node) body).leaves
  kind : kind_of (record (state_of node) { kept = kept_after (state_of node) body }) ≡ kind_at node

fine_if : (b : Bool) → not b ≡ false → b ≡ true
fine_if true e = refl
fine_if false e = absurd (true≢false e)

wrong_if : (b : Bool) → not b ≡ true → b ≡ false
wrong_if false e = refl
wrong_if true e = absurd (true≢false (sym e))

message_effect : (w : World) (item : Item) (node : NodeRecord) (msg : Message) (b : Bool) → class_of (kind_at node) msg ≡ OfKind → not (is_fine (outcome_of (state_of node) (Msg msg)).errno) ≡ b
    → EffectIf b w item node (Msg msg) (outcome_of (state_of node) (Msg msg))
message_effect w item node msg true own is =
    let out = outcome_of (state_of node) (Msg msg) in (
      refused_leaves (state_of node) msg.header.cmd msg.args (wrong_if (is_fine out.errno) is),
      ap (message_by w item node msg) own ∙ ap (reply_changes_if node item msg out) (wrong_if (is_fine out.errno) is),
    )
message_effect w item node msg false own is =
    let out = outcome_of (state_of node) (Msg msg) in
    ap (message_by w item node msg) own ∙ ap (reply_changes_if node item msg out) (fine_if (is_fine out.errno) is)
    ∙ ap (λ (b : Bool). becomes node (Msg msg) ∷ (exits [] out.leaves ++ (counts_unless b ++ (answered item msg out.answer ++ posts out.sends)))) (sym (fine_if (is_fine out.errno) is))

learn_effect : (node : NodeRecord) (body : Body) (hook : Option Hook) → is_some hook ≡ true → learn node hook body ≡ becomes node body ∷ []
learn_effect node body None e = absurd (true≢false (sym e))
learn_effect node body (Some h) e = refl

written_body : (item : Item) (node : NodeRecord) (body : Body) (before : State) → body_job item node body ≡ Writes item before → IsWrittenBody item node body before
written_body item node (Frame door link packet) before job =
    let job = frame_state item (state_of node) before (way_of (state_of node)) job in
    record {
      state = job.1;
      effect = λ w b is. by w b is;
      may = subst (λ (o : Outcome). AllMayLeaveBy (arrival_hook (Frame door link packet)) o.leaves) (sym (ap (λ (o : Option Plan). outcome_by_plan (state_of node) o door packet) job.0)) (door_may node.kept (state_of node).hooks door link packet);
      kind = passed_kind node.kept (hook_names node) door (outcome_of (state_of node) (Frame door link packet)).counts;
    }
  where
    by : (w : World) (b : Bool) → false ≡ b → EffectIf b w item node (Frame door link packet) (outcome_of (state_of node) (Frame door link packet))
    by w true e = absurd (true≢false (sym e))
    by w false e =
        let out = outcome_of (state_of node) (Frame door link packet) in
        ap (λ (hook : List ℕ). becomes node (Frame door link packet) ∷ (exits hook out.leaves ++ (counts_unless (is_fine out.errno) ++ (followed_by item (Frame door link packet) out.learn out.answer ++ posts out.sends)))) (door_named door link packet)
written_body item node (Msg msg) before job =
    let job = message_state item (state_of node) before item.writer (is_of_kind (class_of (kind_at node) msg)) (item.writer && is_of_kind (class_of (kind_at node) msg)) refl job in
    record {
      state = job.1;
      effect = λ w b is. message_effect w item node msg b (of_kind (class_of (kind_at node) msg) job.0) is;
      may = subst (AllMayLeaveBy None) (sym (reply_quiet node.kept (hook_names node) msg.header.cmd msg.args).1) tt;
      kind = reply_kind node.kept (hook_names node) msg.header.cmd msg.args;
    }
written_body item node (Tick seconds) before job =
    let same : state_of node ≡ before = cc in
    record {
      state = sym same;
      effect = λ w b is. by w b is;
      may = tt;
      kind = ticked_kind node.kept seconds;
    }
  where
    by : (w : World) (b : Bool) → false ≡ b → EffectIf b w item node (Tick seconds) (outcome_of (state_of node) (Tick seconds))
    by w true e = absurd (true≢false (sym e))
    by w false e = refl
written_body item node (Learn hook link addr) before job =
    let job = learn_state item (state_of node) before (linked_hook node hook link) job in
    record {
      state = job.1;
      effect = λ w b is. by w b is job.0;
      may = tt;
      kind = learned_kind node.kept hook addr;
    }
  where
    by : (w : World) (b : Bool) → false ≡ b → is_some (linked_hook node hook link) ≡ true → EffectIf b w item node (Learn hook link addr) (outcome_of (state_of node) (Learn hook link addr))
    by w true e there = absurd (true≢false (sym e))
    by w false e there = learn_effect node (Learn hook link addr) (linked_hook node hook link) there
written_body item node (Join2 hook link peer peer_hook) before job = absurd (cc)
written_body item node (Join3 hook link) before job = absurd (cc)
written_body item node (Undo hook link errno) before job = absurd (cc)
written_body item node (Leave hook link) before job = absurd (cc)
written_body item node (Rebind hook old new peer peer_hook) before job = absurd (cc)

-- THE STATE AND THE OUTCOME ARE THOSE OF THE NODE

written_of : (item : Item) (node : NodeRecord) (now : State) (outcome : Outcome) (W : IsWrittenAt item node now outcome) → IsWrittenBody item node item.body W.before
written_of item node now outcome W = written_body item node item.body W.before (written_job item node now outcome W)

now_is : (item : Item) (node : NodeRecord) (now : State) (outcome : Outcome) → IsWrittenAt item node now outcome → now ≡ record (state_of node) { kept = kept_after (state_of node) item.body }
now_is item node now outcome W = W.written.after ∙ ap (λ (s : State). let t : State = record s { kept = kept_after s item.body } in t) (written_of item node now outcome W).state

outcome_is : (item : Item) (node : NodeRecord) (now : State) (outcome : Outcome) → IsWrittenAt item node now outcome → outcome ≡ outcome_of (state_of node) item.body
outcome_is item node now outcome W = W.written.outcome_is ∙ ap (λ (s : State). outcome_of s item.body) (written_of item node now outcome W).state

pub written_may : (item : Item) (node : NodeRecord) (now : State) (outcome : Outcome) → IsWrittenAt item node now outcome → AllMayLeaveBy (arrival_hook item.body) outcome.leaves
written_may item node now outcome W = subst (λ (o : Outcome). AllMayLeaveBy (arrival_hook item.body) o.leaves) (sym (outcome_is item node now outcome W)) (written_of item node now outcome W).may

-- the box fits its node
pub written_fits : (item : Item) (node : NodeRecord) (now : State) (outcome : Outcome) → IsWrittenAt item node now outcome → FitsNode node now
written_fits item node now outcome W = record {
  kind = ap kind_of (now_is item node now outcome W) ∙ (written_of item node now outcome W).kind;
  hooks = ap (λ (s : State). s.hooks) (now_is item node now outcome W);
}

-- THE RUN AFTER IT

same_world : (w : World) (at : _) (node : NodeRecord) → get_or w.nodes at None ≡ Some node → w ≡ record w { nodes = set w.nodes at (Some node) }
same_world w at node here = ap (λ (nodes : List (Option NodeRecord)). record w { nodes = nodes }) (sym (set_same w.nodes at None (Some node) here))

applied_if : (b : Bool) (a : RunState) (item : Item) (node : NodeRecord) (out : Outcome) → IsAtNode a item node → is_hook_gone (Some node) item.body ≡ false
    → EffectIf b (done_from a item).world item node item.body out
    → applied_from a item ≡ in_world (done_from a item) (change_all item.to item.stamp (record ((done_from a item).world) { nodes = set a.world.nodes item.to.0 (Some (with_kept (kept_after (state_of node) item.body) node)) }) (follows_if b item item.body out))
applied_if false a item node out at stays e = applied_set a item node (with_kept (kept_after (state_of node) item.body) node) (follows_if false item item.body out) at stays e
applied_if true a item node out at stays e =
    applied_else a item node (follows_if true item item.body out) at stays e.1
    ∙ ap (λ (w : World). in_world (done_from a item) (change_all item.to item.stamp w (follows_if true item item.body out))) (same_world (done_from a item).world item.to.0 node at.here)
    ∙ ap (λ (k : KindState). in_world (done_from a item) (change_all item.to item.stamp (record ((done_from a item).world) { nodes = set a.world.nodes item.to.0 (Some (with_kept k node)) }) (follows_if true item item.body out))) (sym e.0)

pub written_applied : (a : RunState) (item : Item) (node : NodeRecord) (now : State) (outcome : Outcome) → IsAtNode a item node → IsWrittenAt item node now outcome
    → applied_from a item ≡ in_world (done_from a item) (change_all item.to item.stamp (record ((done_from a item).world) { nodes = set a.world.nodes item.to.0 (Some (with_kept now.kept node)) }) (follows item outcome))
written_applied a item node now outcome at W =
    let out = outcome_of (state_of node) item.body in
    applied_if (is_refused item.body out.errno) a item node out at (written_stands item node now outcome W) ((written_of item node now outcome W).effect (done_from a item).world (is_refused item.body out.errno) refl)
    ∙ ap (λ (o : Outcome). in_world (done_from a item) (change_all item.to item.stamp (record ((done_from a item).world) { nodes = set a.world.nodes item.to.0 (Some (with_kept (kept_after (state_of node) item.body) node)) }) (follows item o))) (sym (outcome_is item node now outcome W))
    ∙ ap (λ (s : State). in_world (done_from a item) (change_all item.to item.stamp (record ((done_from a item).world) { nodes = set a.world.nodes item.to.0 (Some (with_kept s.kept node)) }) (follows item outcome))) (sym (now_is item node now outcome W))

-- A MESSAGE OF THE TYPE'S OWN THAT READS

own_stays : (item : Item) (node : NodeRecord) (msg : Message) → item.body ≡ Msg msg → is_hook_gone (Some node) item.body ≡ false
own_stays item node msg is = ap (is_hook_gone (Some node)) is

own_effect : (w : World) (item : Item) (node : NodeRecord) (msg : Message) (b : Bool) → item.body ≡ Msg msg → class_of (kind_at node) msg ≡ OfKind → is_refused item.body (outcome_of (state_of node) item.body).errno ≡ b
    → EffectIf b w item node item.body (outcome_of (state_of node) item.body)
own_effect w item node msg b is own refused =
    subst (λ (body : Body). EffectIf b w item node body (outcome_of (state_of node) body)) (sym is)
    (message_effect w item node msg b own (subst (λ (body : Body). is_refused body (outcome_of (state_of node) body).errno ≡ b) is refused))

-- the node stays as it is
pub own_applied : (a : RunState) (item : Item) (node : NodeRecord) (msg : Message) → IsAtNode a item node → item.body ≡ Msg msg → class_of (kind_at node) msg ≡ OfKind → is_reader_number msg.header.cmd ≡ true
    → applied_from a item ≡ in_world (done_from a item) (change_all item.to item.stamp (done_from a item).world (follows item (outcome_of (state_of node) item.body)))
own_applied a item node msg at is own reads =
    let out = outcome_of (state_of node) item.body in
    let kept : kept_after (state_of node) item.body ≡ node.kept = ap (kept_after (state_of node)) is ∙ reply_reads node.kept (hook_names node) msg.header.cmd msg.args reads in
    applied_if (is_refused item.body out.errno) a item node out at (own_stays item node msg is) (own_effect (done_from a item).world item node msg (is_refused item.body out.errno) is own refl)
    ∙ ap (λ (k : KindState). in_world (done_from a item) (change_all item.to item.stamp (record ((done_from a item).world) { nodes = set a.world.nodes item.to.0 (Some (with_kept k node)) }) (follows item out))) kept
    ∙ ap (λ (w : World). in_world (done_from a item) (change_all item.to item.stamp w (follows item out))) (sym (same_world (done_from a item).world item.to.0 node at.here))

pub own_may : (item : Item) (node : NodeRecord) (msg : Message) → item.body ≡ Msg msg → AllMayLeaveBy (arrival_hook item.body) (outcome_of (state_of node) item.body).leaves
own_may item node msg is =
    subst (λ (body : Body). AllMayLeaveBy (arrival_hook body) (outcome_of (state_of node) body).leaves) (sym is)
    (subst (AllMayLeaveBy None) (sym (reply_quiet node.kept (hook_names node) msg.header.cmd msg.args).1) tt)
