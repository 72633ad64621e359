-- A packet by a plan: what its item does.
use Rattle.std.proofs.Common.{◌≡◌, ℕ, List, [], ◌∷◌, ◌++◌, Bool, true, false, is_some, refl, sym, ap, ◌∙◌, subst, true≢false}
use Rattle.std.specs.declared.option.Option.{Option}
use Rattle.std.specs.declared.option.Option.TheVariants.{None, Some}
use Rattle.ng_base.specs.declared.kind.Kind.{Kind}
use Rattle.ng_base.specs.declared.kind.Kind.TheVariants as kinds
use Rattle.ng_machine.specs.declared.body.Body.{Body}
use Rattle.ng_machine.specs.declared.body.Body.TheVariants.{Frame, Msg, Join2, Join3, Undo, Leave, Rebind, Tick, Learn}
use Rattle.ng_machine.specs.declared.body.Door.{Door}
use Rattle.ng_machine.specs.declared.body.Door.TheVariants.{Wire, Hook as ByHook}
use Rattle.ng_machine.specs.declared.body.Exit.{Exit}
use Rattle.ng_machine.specs.declared.body.Exit.TheVariants as exit
use Rattle.ng_machine.specs.declared.item.Item.{Item}
use Rattle.ng_machine.specs.declared.outcome.Outcome.{Outcome}
use Rattle.ng_machine.specs.declared.plan.Plan.{Plan}
use Rattle.ng_machine.specs.declared.plan.Plan.TheVariants.{Discard, Echo, Fan, Ways, Vlan, Patch, Bpf, Ether, Socket, Bridge, Etf, Macset}
use Rattle.ng_machine.specs.Case.{absorb, eval, kept_after_frame, outcome_by_plan, outcome_of}
use Rattle.ng_machine.specs.Change.{Change, Sets}
use Rattle.ng_machine.specs.Counters.{Count}
use Rattle.ng_machine.specs.Desk.{Reads, body_job, frame_job, job_unless_gone}
use Rattle.ng_machine.specs.Effect.{counts_unless, door_name, effect_at, exits, is_fine, is_hook_gone, posts}
use Rattle.ng_machine.specs.State.{KindState, HubState, HoleState, EchoState, SplitState, SocketState, TeeState, One2manyState, BridgeState, VlanState, PatchState, BpfState, EtherState, EtfState, MacsetState, State, way_of, way_of_kept}
use Rattle.ng_machine.specs.World.{World, NodeRecord, state_of}
use Rattle.ng_machine.specs.story.Work.{IsEvaluated}
use Rattle.ng_topology.specs.Topology.{with_kept}
use Rattle.ng_core_state.specs.service.Followers.{follows, follows_if, is_refused, learned_by}
use Rattle.ng_core_state.specs.service.Leaving.{AllMayLeaveBy, MayLeaveBy, arrival_hook, name_or_empty}
use Rattle.ng_core_state.specs.service.Work.{IsReadAt}

-- WHICH WAY A PACKET MAY LEAVE

-- no packet of the wire reaches a reader
arrives_may : (packet : List ℕ) (has_lower : Bool) → AllMayLeaveBy None (eval (Ether has_lower) Wire packet).leaves
arrives_may packet true = tt
arrives_may packet false = (tt, tt)

ways_may : (kind : Kind) (hooks : List (List ℕ)) (packet : List ℕ) → AllMayLeaveBy None (eval (Ways kind hooks) Wire packet).leaves
ways_may kinds.Hub hooks packet = tt
ways_may kinds.Hole hooks packet = tt
ways_may kinds.Echo hooks packet = tt
ways_may kinds.Tee hooks packet = tt
ways_may kinds.Split hooks packet = tt
ways_may kinds.One2many hooks packet = tt
ways_may kinds.Bridge hooks packet = tt
ways_may kinds.Vlan hooks packet = tt
ways_may kinds.Patch hooks packet = tt
ways_may kinds.Bpf hooks packet = tt
ways_may kinds.Ether hooks packet = tt
ways_may kinds.Socket hooks packet = tt
ways_may kinds.Etf hooks packet = tt
ways_may kinds.Macset hooks packet = tt

wire_may : (plan : Plan) (packet : List ℕ) → AllMayLeaveBy None (eval plan Wire packet).leaves
wire_may (Ether has_lower) packet = arrives_may packet has_lower
wire_may (Ways kind hooks) packet = ways_may kind hooks packet
wire_may Discard packet = tt
wire_may Echo packet = tt
wire_may (Fan hooks) packet = tt
wire_may (Vlan hooks kind filters) packet = tt
wire_may (Patch hooks ops) packet = tt
wire_may (Bpf ways) packet = tt
wire_may Socket packet = tt
wire_may (Bridge config links hosts) packet = tt
wire_may (Etf hooks filters) packet = tt
wire_may (Macset hooks addresses) packet = tt

hook_may : (hook : List ℕ) (e : Exit) → MayLeaveBy (Some hook) e
hook_may hook exit.Wire = tt
hook_may hook exit.Host = tt
hook_may hook exit.Reader = tt

pub hook_may_all : (hook : List ℕ) (leaves : List (Exit × List ℕ)) → AllMayLeaveBy (Some hook) leaves
hook_may_all hook [] = tt
hook_may_all hook (x ∷ leaves) = (hook_may hook x.0, hook_may_all hook leaves)

door_may : (plan : Plan) (door : Door) (link : _) (packet : List ℕ) → AllMayLeaveBy (arrival_hook (Frame door link packet)) (eval plan door packet).leaves
door_may plan Wire link packet = wire_may plan packet
door_may plan (ByHook hook) link packet = hook_may_all hook (eval plan (ByHook hook) packet).leaves

-- WHAT THE NODE KEEPS

after_absorbs : (kept : KindState) (hooks : List (List ℕ)) (door : Door) (counts : List Count) → is_some (way_of_kept kept hooks) ≡ true → kept_after_frame kept hooks door counts ≡ absorb kept counts
after_absorbs (One2manyState s) hooks door counts is = absurd (true≢false (sym is))
after_absorbs (TeeState rows) hooks door counts is = refl
after_absorbs (BridgeState s) hooks door counts is = refl
after_absorbs (BpfState s) hooks door counts is = refl
after_absorbs (EtfState s) hooks door counts is = refl
after_absorbs (MacsetState s) hooks door counts is = refl
after_absorbs (HubState persistent) hooks door counts is = refl
after_absorbs HoleState hooks door counts is = refl
after_absorbs EchoState hooks door counts is = refl
after_absorbs SplitState hooks door counts is = refl
after_absorbs SocketState hooks door counts is = refl
after_absorbs (VlanState s) hooks door counts is = refl
after_absorbs (PatchState ops) hooks door counts is = refl
after_absorbs (EtherState s) hooks door counts is = refl

-- WHAT THE JOB SAYS

not_gone : (gone : Bool) (item : Item) (node : NodeRecord) (plan : Plan) → job_unless_gone gone item node ≡ Reads item plan → gone ≡ false
not_gone false item node plan e = refl
not_gone true item node plan e = absurd (cc)

pub read_stands : (item : Item) (node : NodeRecord) (outcome : Outcome) → IsReadAt item node outcome → is_hook_gone (Some node) item.body ≡ false
read_stands item node outcome R = not_gone (is_hook_gone (Some node) item.body) item node R.plan R.job

read_job : (item : Item) (node : NodeRecord) (outcome : Outcome) (R : IsReadAt item node outcome) → body_job item node item.body ≡ Reads item R.plan
read_job item node outcome R = sym (ap (λ (b : Bool). job_unless_gone b item node) (read_stands item node outcome R)) ∙ R.job

frame_way : (item : Item) (state : State) (way : Option Plan) (plan : Plan) → frame_job item state way ≡ Reads item plan → way ≡ Some plan
frame_way item state None plan e = absurd (cc)
frame_way item state (Some p) plan e = let same : p ≡ plan = cc in ap (λ (x : Plan). Some x) same

-- what is so of a body that was read
record IsReadBody (item : Item) (node : NodeRecord) (body : Body) (outcome : Outcome) : Type 0 where
  effect : (w : World) → effect_at w item node body ≡ Sets (with_kept (absorb node.kept outcome.counts) node) ∷ follows_if (is_refused body outcome.errno) item body outcome
  may : AllMayLeaveBy (arrival_hook body) outcome.leaves

abbrev serves : NodeRecord → List ℕ → KindState → Outcome → List Change → List Change
serves node hook kept out learned = Sets (with_kept kept node) ∷ (exits hook out.leaves ++ (counts_unless (is_fine out.errno) ++ (learned ++ posts out.sends)))

pub door_named : (door : Door) (link : _) (packet : List ℕ) → door_name door ≡ name_or_empty (arrival_hook (Frame door link packet))
door_named Wire link packet = refl
door_named (ByHook hook) link packet = refl

read_body : (item : Item) (node : NodeRecord) (plan : Plan) (body : Body) (outcome : Outcome) → body_job item node body ≡ Reads item plan → IsEvaluated plan body outcome → IsReadBody item node body outcome
read_body item node plan (Frame door link packet) outcome job is =
    let way : way_of (state_of node) ≡ Some plan = frame_way item (state_of node) (way_of (state_of node)) plan job in
    let out : outcome_of (state_of node) (Frame door link packet) ≡ outcome = ap (λ (o : Option Plan). outcome_by_plan (state_of node) o door packet) way ∙ sym is in
    record {
      effect = λ w.
          ap (λ (o : Outcome). serves node (door_name door) (kept_after_frame node.kept (state_of node).hooks door o.counts) o (learned_by item.to (Frame door link packet) o.learn)) out
          ∙ ap (λ (k : KindState). serves node (door_name door) k outcome (learned_by item.to (Frame door link packet) outcome.learn)) (after_absorbs node.kept (state_of node).hooks door outcome.counts (ap is_some way))
          ∙ ap (λ (hook : List ℕ). serves node hook (absorb node.kept outcome.counts) outcome (learned_by item.to (Frame door link packet) outcome.learn)) (door_named door link packet);
      may = subst (λ (o : Outcome). AllMayLeaveBy (arrival_hook (Frame door link packet)) o.leaves) (sym is) (door_may plan door link packet);
    }
read_body item node plan (Msg msg) outcome job is = absurd is
read_body item node plan (Join2 hook link peer peer_hook) outcome job is = absurd is
read_body item node plan (Join3 hook link) outcome job is = absurd is
read_body item node plan (Undo hook link errno) outcome job is = absurd is
read_body item node plan (Leave hook link) outcome job is = absurd is
read_body item node plan (Rebind hook old new peer peer_hook) outcome job is = absurd is
read_body item node plan (Tick seconds) outcome job is = absurd is
read_body item node plan (Learn hook link addr) outcome job is = absurd is

read_of : (item : Item) (node : NodeRecord) (outcome : Outcome) → IsReadAt item node outcome → IsReadBody item node item.body outcome
read_of item node outcome R = read_body item node R.plan item.body outcome (read_job item node outcome R) R.evaluated

pub read_effect : (w : World) (item : Item) (node : NodeRecord) (outcome : Outcome) → IsReadAt item node outcome → effect_at w item node item.body ≡ Sets (with_kept (absorb node.kept outcome.counts) node) ∷ follows item outcome
read_effect w item node outcome R = (read_of item node outcome R).effect w

pub read_may : (item : Item) (node : NodeRecord) (outcome : Outcome) → IsReadAt item node outcome → AllMayLeaveBy (arrival_hook item.body) outcome.leaves
read_may item node outcome R = (read_of item node outcome R).may
