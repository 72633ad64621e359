-- What is known of a taken item at its node.
use Rattle.std.proofs.Common.{◌≡◌, ◌∙◌, inr, ℕ, Bool, true, false, not, List, refl, sym, ap, true≢false}
use Rattle.std.specs.Prelude.{◌&&◌, ◌==◌, Option, Some, None, Result, Ok, Err}
use Rattle.ng_base.specs.declared.errno.Errno.{Errno}
use Rattle.ng_base.specs.declared.ids.LinkId.{LinkId}
use Rattle.ng_base.specs.declared.kind.Kind.{Kind}
use Rattle.ng_base.specs.declared.kind.Kind.TheVariants.{Socket}
use Rattle.ng_base.specs.Kind.{cookie_of, same_kind}
use Rattle.ng_message.specs.declared.message.Msg.{Msg as Message}
use Rattle.ng_message.specs.Numbers.{generic_cookie, is_reader_number}
use Rattle.ng_machine.specs.declared.body.Body.{Body}
use Rattle.ng_machine.specs.declared.body.Body.TheVariants.{Frame, Msg, Join2, Join3, Undo, Leave, Rebind, Tick, Learn}
use Rattle.ng_machine.specs.declared.item.Item.{Item}
use Rattle.ng_machine.specs.declared.outcome.Outcome.{Outcome}
use Rattle.ng_machine.specs.declared.plan.Plan.{Plan}
use Rattle.ng_machine.specs.Body.{is_writer}
use Rattle.ng_machine.specs.Desk.{Within, Reads, Writes, body_job, is_of_kind, job_at, job_unless_gone, writes_if}
use Rattle.ng_machine.specs.Effect.{MessageClass, AnAnswer, AnOrder, OfKind, Foreign, class_by, class_of, is_answer, is_hook_gone}
use Rattle.ng_machine.specs.Order.{Order, Question, as_order, read_by_mode, read_order, read_question}
use Rattle.ng_machine.specs.Run.{RunState}
use Rattle.ng_machine.specs.State.{State as NodeState}
use Rattle.ng_machine.specs.World.{NodeRecord, kind_at, node_at, node_in, state_of}
use Rattle.ng_core_apply.specs.orders.Classes.{obeys}
use Rattle.ng_core_apply.specs.orders.Inside.{IsInside, is_left, is_left_message, removes_as_read}
use Rattle.ng_core_state.specs.step.Steps.{IsStep}
use Rattle.ng_core_apply.proofs.orders.Classed.{order_step}
use Rattle.ng_core_apply.proofs.orders.InsideSteps.{inside_step}
use Rattle.ng_core_apply.specs.removal.Removals.{IsAlone, leaves}
use Rattle.ng_core_state.specs.service.Work.{IsOwnAt, IsReadAt, IsWrittenAt}
use Rattle.ng_core_state.specs.step.Applied.{ComesOut, IsAtNode, applied_from}
use Rattle.ng_core_state.specs.step.Boxes.{LeavesBox}
use Rattle.ng_core_state.proofs.step.Homes.{box_is_home}
use Rattle.ng_machine.specs.story.Work.{Evaluated, IsDone, IsEvaluated, Written, removed_state}
use Rattle.ng_topology.specs.Topology.{is_home}
use Rattle.ng_core_state.specs.declared.state.State.{State}
use Rattle.ng_core_state.specs.Stands.{MayLeave}
use Rattle.ng_core_apply.specs.AtHand.{IsAtHand, IsWithin}
use Rattle.ng_core_apply.proofs.NodesStay.{may_go, may_go_by, there_after}

pub inside_of : {B : Type 0} (s : State B) (item : Item) (a : RunState) (node : NodeRecord) → IsWithin s item a node → IsInside s item a node
inside_of s item a node W = record { stands = W.0.stands; at = W.0.at; low = W.0.low; job = W.1 }

-- Boxes

leaves_box : (item : Item) (node : NodeRecord) → job_at item (Some node) ≡ Within item → LeavesBox item node
leaves_box item node e state w = let q : Within item ≡ Writes item state = sym e ∙ w in absurd (cc)

reads_leave_box : (item : Item) (node : NodeRecord) (plan : Plan) → job_at item (Some node) ≡ Reads item plan → LeavesBox item node
reads_leave_box item node plan e state w = let q : Reads item plan ≡ Writes item state = sym e ∙ w in absurd (cc)

at_home : {B : Type 0} (s : State B) (item : Item) (a : RunState) (node : NodeRecord) → IsAtHand s item a node → LeavesBox item node → is_home s.graph item.to ≡ true
at_home s item a node H leave = box_is_home s a item node H.stands H.only (ap (λ (l : List (Option NodeRecord)). node_in l item.to) H.stands.graph.nodes ∙ H.at.here) leave

-- the box is at home where the item needs no work outside, or reads
pub within_home : {B : Type 0} (s : State B) (item : Item) (a : RunState) (node : NodeRecord) → IsWithin s item a node → is_home s.graph item.to ≡ true
within_home s item a node W = at_home s item a node W.0 (leaves_box item node W.1)

pub reads_home : {B : Type 0} (s : State B) (item : Item) (a : RunState) (node : NodeRecord) (plan : Plan) → IsAtHand s item a node → job_at item (Some node) ≡ Reads item plan → is_home s.graph item.to ≡ true
reads_home s item a node plan H e = at_home s item a node H (reads_leave_box item node plan e)

pub within_leaves : {B : Type 0} (s : State B) (item : Item) (a : RunState) (node : NodeRecord) → IsWithin s item a node → MayLeave s.graph item
within_leaves s item a node W = inr (within_home s item a node W)

-- its mode is that of its body
mode : {B : Type 0} (s : State B) (item : Item) (a : RunState) (node : NodeRecord) → IsAtHand s item a node → item.writer ≡ is_writer (kind_at node) item.body
mode s item a node H =
    let t = H.stands.there item H.at.out.0 in
    let same : Some t.0 ≡ Some node = sym t.1 ∙ H.at.here in
    let row : t.0 ≡ node = cc in
    t.2 ∙ ap (λ (r : NodeRecord). is_writer (kind_at r) item.body) row

alone_by : {B : Type 0} (s : State B) (item : Item) (a : RunState) (node : NodeRecord) (body : Body) → IsAtHand s item a node → item.body ≡ body → is_writer (kind_at node) body ≡ true → IsAlone a item
alone_by s item a node body H is writes = H.alone (mode s item a node H ∙ ap (is_writer (kind_at node)) is ∙ writes)

-- a peer's going is a step of an item that is alone
pub leave_step : {B : Type 0} (s : State B) (item : Item) (a : RunState) (node : NodeRecord) (hook : List ℕ) (link : LinkId) → IsWithin s item a node → item.body ≡ Leave hook link → IsStep s item a node (leaves item hook link a node) × IsAlone a item
leave_step s item a node hook link W is =
    (inside_step s item a node (Leave hook link) (leaves item hook link a node) (inside_of s item a node W) is refl refl, alone_by s item a node (Leave hook link) W.0 is refl)

-- Messages

order_by : (msg : Message) (answer generic own : Bool) → generic ≡ true → is_left_message (class_by answer generic own) msg ≡ true → class_by answer generic own ≡ AnOrder
order_by msg true generic own e l = absurd (true≢false (sym l))
order_by msg false true own e l = refl
order_by msg false false own e l = absurd (true≢false (sym e))

own_by : (msg : Message) (answer generic own : Bool) → generic ≡ false → is_left_message (class_by answer generic own) msg ≡ true → class_by answer generic own ≡ OfKind
own_by msg true generic own e l = absurd (true≢false (sym l))
own_by msg false true own e l = absurd (true≢false e)
own_by msg false false true e l = refl
own_by msg false false false e l = absurd (true≢false (sym l))

left_message : (node : NodeRecord) (item : Item) (msg : Message) → item.body ≡ Msg msg → is_left (kind_at node) item.body ≡ true → is_left_message (class_of (kind_at node) msg) msg ≡ true
left_message node item msg is l = sym (ap (is_left (kind_at node)) is) ∙ l

-- a message that is left is an order where its cookie is the generic one, and else the type's own
pub is_order : (node : NodeRecord) (item : Item) (msg : Message) → item.body ≡ Msg msg → is_left (kind_at node) item.body ≡ true → (msg.header.typecookie == generic_cookie) ≡ true → class_of (kind_at node) msg ≡ AnOrder
is_order node item msg is l e =
    order_by msg (is_answer msg && same_kind (kind_at node) Socket) (msg.header.typecookie == generic_cookie) (msg.header.typecookie == cookie_of (kind_at node)) e (left_message node item msg is l)

pub is_own : (node : NodeRecord) (item : Item) (msg : Message) → item.body ≡ Msg msg → is_left (kind_at node) item.body ≡ true → (msg.header.typecookie == generic_cookie) ≡ false → class_of (kind_at node) msg ≡ OfKind
is_own node item msg is l e =
    own_by msg (is_answer msg && same_kind (kind_at node) Socket) (msg.header.typecookie == generic_cookie) (msg.header.typecookie == cookie_of (kind_at node)) e (left_message node item msg is l)

-- an order that is left is one by which a node or a hook goes
pub order_removes : (node : NodeRecord) (item : Item) (msg : Message) → item.body ≡ Msg msg → is_left (kind_at node) item.body ≡ true → class_of (kind_at node) msg ≡ AnOrder → removes_as_read (read_order msg.header.cmd msg.args) ≡ true
order_removes node item msg is l class = sym (ap (λ (c : MessageClass). is_left_message c msg) class) ∙ left_message node item msg is l

no_question : (q : Result Question Errno) → removes_as_read (as_order q) ≡ true → ⊥
no_question (Ok question) e = true≢false (sym e)
no_question (Err errno) e = true≢false (sym e)

-- and it writes
removal_writes : (number : ℕ) (args : List ℕ) → removes_as_read (read_order number args) ≡ true → is_reader_number number ≡ false
removal_writes number args e = by (is_reader_number number) e
  where
    by : (b : Bool) → removes_as_read (read_by_mode b number args) ≡ true → b ≡ false
    by false e = refl
    by true e = absurd (no_question (read_question number args) e)

pub removal_step : {B : Type 0} (s : State B) (item : Item) (a : RunState) (node : NodeRecord) (msg : Message) (read : Result Order Errno) → IsWithin s item a node → item.body ≡ Msg msg
    → is_left (kind_at node) item.body ≡ true → class_of (kind_at node) msg ≡ AnOrder → read_order msg.header.cmd msg.args ≡ read
    → IsStep s item a node (obeys item msg.from msg.header read a node) × IsAlone a item
removal_step s item a node msg read W is l class e = (
  order_step s item a node msg read (inside_of s item a node W) is class e,
  alone_by s item a node (Msg msg) W.0 is (ap not (removal_writes msg.header.cmd msg.args (order_removes node item msg is l class))),
)

no_writing : (item : Item) (state : NodeState) (b : Bool) → writes_if (b && true) item state ≡ Within item → b ≡ false
no_writing item state false e = refl
no_writing item state true e = absurd (cc)

not_false : (b : Bool) → not b ≡ false → b ≡ true
not_false true e = refl
not_false false e = absurd (true≢false e)

-- a message of the type's own that needs no work outside reads
pub own_at : {B : Type 0} (s : State B) (item : Item) (a : RunState) (node : NodeRecord) (msg : Message) → IsWithin s item a node → item.body ≡ Msg msg → class_of (kind_at node) msg ≡ OfKind → IsOwnAt item node
own_at s item a node msg W is class =
    let job : writes_if (item.writer && is_of_kind (class_of (kind_at node) msg)) item (state_of node) ≡ Within item =
    sym (ap (λ (b : Body). job_unless_gone (is_hook_gone (Some node) b) item node) is ∙ ap (body_job item node) is) ∙ W.1 in
    let reads : item.writer ≡ false = no_writing item (state_of node) item.writer (sym (ap (λ (c : MessageClass). writes_if (item.writer && is_of_kind c) item (state_of node)) class) ∙ job) in record {
      msg = msg;
      body = is;
      own = class;
      reads = not_false (is_reader_number msg.header.cmd) (sym (ap (is_writer (kind_at node)) is) ∙ sym (mode s item a node W.0) ∙ reads);
    }

-- What comes out

-- nothing, where the node doesn't go
pub nothing_out : {B : Type 0} (state : B → NodeState) (a : RunState) (item : Item) (node : NodeRecord) → IsAtNode a item node → may_go (kind_at node) item.body ≡ false
    → ComesOut state (Some node) (node_at (applied_from a item).world item.to) None
nothing_out state a item node at may = let T = there_after a item node at may in sym (ap (removed_state (Some node)) T.1)

pub own_stays : (item : Item) (node : NodeRecord) (msg : Message) → item.body ≡ Msg msg → class_of (kind_at node) msg ≡ OfKind → may_go (kind_at node) item.body ≡ false
own_stays item node msg is class = ap (may_go (kind_at node)) is ∙ ap (λ (c : MessageClass). may_go_by c msg) class

class_writes : (msg : Message) (item : Item) (state other : NodeState) (b : Bool) (class : MessageClass) → writes_if (b && is_of_kind class) item state ≡ Writes item other → may_go_by class msg ≡ false
class_writes msg item state other b AnAnswer e = refl
class_writes msg item state other b OfKind e = refl
class_writes msg item state other b Foreign e = refl
class_writes msg item state other true AnOrder e = absurd (cc)
class_writes msg item state other false AnOrder e = absurd (cc)

body_writes : (item : Item) (node : NodeRecord) (state : NodeState) (body : Body) → body_job item node body ≡ Writes item state → may_go (kind_at node) body ≡ false
body_writes item node state (Msg msg) e = class_writes msg item (state_of node) state item.writer (class_of (kind_at node) msg) e
body_writes item node state (Leave hook link) e = absurd (cc)
body_writes item node state (Frame door link packet) e = refl
body_writes item node state (Tick seconds) e = refl
body_writes item node state (Learn hook link addr) e = refl
body_writes item node state (Join2 hook link peer peer_hook) e = refl
body_writes item node state (Join3 hook link) e = refl
body_writes item node state (Undo hook link errno) e = refl
body_writes item node state (Rebind hook old new peer peer_hook) e = refl

-- a node stays whose box was worked on
pub writes_stay : (item : Item) (node : NodeRecord) (state : NodeState) → job_at item (Some node) ≡ Writes item state → may_go (kind_at node) item.body ≡ false
writes_stay item node state e = by (is_hook_gone (Some node) item.body) e
  where
    by : (b : Bool) → job_unless_gone b item node ≡ Writes item state → may_go (kind_at node) item.body ≡ false
    by true e = absurd (cc)
    by false e = body_writes item node state item.body e

-- and one whose plan a packet had
pub reads_stay : (kind : Kind) (plan : Plan) (body : Body) (outcome : Outcome) → IsEvaluated plan body outcome → may_go kind body ≡ false
reads_stay kind plan (Frame door link packet) outcome e = refl
reads_stay kind plan (Msg msg) outcome e = absurd e
reads_stay kind plan (Leave hook link) outcome e = absurd e
reads_stay kind plan (Tick seconds) outcome e = absurd e
reads_stay kind plan (Learn hook link addr) outcome e = absurd e
reads_stay kind plan (Join2 hook link peer peer_hook) outcome e = absurd e
reads_stay kind plan (Join3 hook link) outcome e = absurd e
reads_stay kind plan (Undo hook link errno) outcome e = absurd e
reads_stay kind plan (Rebind hook old new peer peer_hook) outcome e = absurd e

-- What was handed in, in the words of the step below

pub read_at : (item : Item) (node : NodeRecord) (outcome : Outcome) → IsDone (job_at item (Some node)) (Evaluated item outcome) → IsReadAt item node outcome
read_at item node outcome D = record { plan = D.0; job = D.1; evaluated = D.2 }

pub written_at : (item : Item) (node : NodeRecord) (now : NodeState) (outcome : Outcome) → IsDone (job_at item (Some node)) (Written item now outcome) → IsWrittenAt item node now outcome
written_at item node now outcome D = record { before = D.0; job = D.1; written = D.2 }
