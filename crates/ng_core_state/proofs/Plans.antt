-- A kind has a plan exactly where its packets are readers; what is worked on with the box is a writer.
use Rattle.std.proofs.Common.{◌≡◌, ℕ, List, Bool, true, false, ◌&&◌, is_some, refl, sym, ap, ◌∙◌, true≢false}
use Rattle.std.proofs.lemmas.Bool.{and_parts}
use Rattle.std.specs.declared.option.Option.{Option}
use Rattle.std.specs.declared.option.Option.TheVariants.{None, Some}
use Rattle.ng_machine.specs.declared.body.Body.{Body}
use Rattle.ng_machine.specs.declared.body.Body.TheVariants.{Frame, Msg, Join2, Join3, Undo, Leave, Rebind, Tick, Learn}
use Rattle.ng_machine.specs.declared.item.Item.{Item}
use Rattle.ng_machine.specs.declared.plan.Plan.{Plan}
use Rattle.ng_machine.specs.Body.{is_writer, writes_by_packets}
use Rattle.ng_machine.specs.Desk.{Writes, frame_job, is_of_kind, writes_if, body_job, job_unless_gone, job_at}
use Rattle.ng_machine.specs.Effect.{class_of, is_hook_gone}
use Rattle.ng_machine.specs.State.{KindState, HubState, HoleState, EchoState, SplitState, SocketState, TeeState, One2manyState, BridgeState, VlanState, PatchState, BpfState, EtherState, EtfState, MacsetState, State, kind_of_kept, way_of, way_of_kept}
use Rattle.ng_machine.specs.World.{NodeRecord, state_of, kind_at}

pub has_plan : (kept : KindState) (hooks : List (List ℕ)) → writes_by_packets (kind_of_kept kept) ≡ false → is_some (way_of_kept kept hooks) ≡ true
has_plan (HubState persistent) hooks reads = refl
has_plan HoleState hooks reads = refl
has_plan EchoState hooks reads = refl
has_plan SplitState hooks reads = refl
has_plan SocketState hooks reads = refl
has_plan (TeeState rows) hooks reads = refl
has_plan (One2manyState s) hooks reads = absurd (true≢false reads)
has_plan (BridgeState s) hooks reads = refl
has_plan (VlanState s) hooks reads = refl
has_plan (PatchState ops) hooks reads = refl
has_plan (BpfState s) hooks reads = refl
has_plan (EtherState s) hooks reads = refl
has_plan (EtfState s) hooks reads = refl
has_plan (MacsetState s) hooks reads = refl

-- without a plan a packet writes
none_writes : (kept : KindState) (hooks : List (List ℕ)) → way_of_kept kept hooks ≡ None → writes_by_packets (kind_of_kept kept) ≡ true
none_writes kept hooks none = by (writes_by_packets (kind_of_kept kept)) refl
  where
    by : (b : Bool) → writes_by_packets (kind_of_kept kept) ≡ b → writes_by_packets (kind_of_kept kept) ≡ true
    by true e = e
    by false e = absurd (true≢false (sym (has_plan kept hooks e) ∙ ap is_some none))

frame_writes : (item : Item) (node : NodeRecord) (o : Option Plan) → way_of (state_of node) ≡ o → frame_job item (state_of node) o ≡ Writes item (state_of node) → writes_by_packets (kind_at node) ≡ true
frame_writes item node None is e = none_writes node.kept (state_of node).hooks is
frame_writes item node (Some plan) is e = absurd (cc)

message_writes : (c b : Bool) (item : Item) (state : State) → (item.writer && c) ≡ b → writes_if b item state ≡ Writes item state → item.writer ≡ true
message_writes c true item state is e = (and_parts item.writer c is).0
message_writes c false item state is e = absurd (cc)

body_writes : (item : Item) (node : NodeRecord) (body : Body) → item.writer ≡ is_writer (kind_at node) body → body_job item node body ≡ Writes item (state_of node) → item.writer ≡ true
body_writes item node (Frame door link packet) mode e = mode ∙ frame_writes item node (way_of (state_of node)) refl e
body_writes item node (Msg msg) mode e = message_writes (is_of_kind (class_of (kind_at node) msg)) (item.writer && is_of_kind (class_of (kind_at node) msg)) item (state_of node) refl e
body_writes item node (Tick seconds) mode e = mode
body_writes item node (Learn hook link addr) mode e = mode
body_writes item node (Join2 hook link peer peer_hook) mode e = mode
body_writes item node (Join3 hook link) mode e = mode
body_writes item node (Undo hook link errno) mode e = mode
body_writes item node (Leave hook link) mode e = mode
body_writes item node (Rebind hook old new peer peer_hook) mode e = mode

unless_writes : (b : Bool) (item : Item) (node : NodeRecord) → item.writer ≡ is_writer (kind_at node) item.body → job_unless_gone b item node ≡ Writes item (state_of node) → item.writer ≡ true
unless_writes true item node mode e = absurd (cc)
unless_writes false item node mode e = body_writes item node item.body mode e

-- an item that is worked on with its node is a writer
pub writes_item : (item : Item) (node : NodeRecord) → item.writer ≡ is_writer (kind_at node) item.body → job_at item (Some node) ≡ Writes item (state_of node) → item.writer ≡ true
writes_item item node mode e = unless_writes (is_hook_gone (Some node) item.body) item node mode e
