-- Messages by their class, and orders as they are read.
use Rattle.std.proofs.Common.{◌≡◌, ℕ, Bool, true, false, List, Option, Some, Result, Ok, Err, IfOk, refl, sym, ap, ◌∙◌, subst, true≢false}
use Rattle.std.specs.Option.{option_map}
use Rattle.ng_base.specs.declared.errno.Errno.{Errno}
use Rattle.ng_base.specs.declared.kind.Kind.{Kind}
use Rattle.ng_machine.specs.declared.body.Body.TheVariants.{Msg}
use Rattle.ng_machine.specs.declared.item.Item.{Item}
use Rattle.ng_machine.specs.Effect.{MessageClass, AnAnswer, AnOrder, class_of, message_by}
use Rattle.ng_machine.specs.Generic.{carry_out, ordered_by}
use Rattle.ng_machine.specs.Order.{Order, Question, Shutdown, Mkpeer, Connect, Rename, Rmhook, Asks, as_order, read_by_mode, read_order, read_question}
use Rattle.ng_machine.specs.Run.{RunState}
use Rattle.ng_machine.specs.World.{World, NodeRecord, kind_at, node_in}
use Rattle.ng_message.specs.Numbers.{is_reader_number}
use Rattle.ng_message.specs.declared.message.Msg.{Msg as Message}
use Rattle.ng_core_apply.specs.orders.Asked.{message_of, told_by}
use Rattle.ng_core_apply.specs.orders.Classes.{ReadBecame, changes_as_read}
use Rattle.ng_core_apply.specs.orders.Inside.{Became, IsInside, is_left, is_left_message, removes_as_read}
use Rattle.ng_core_apply.specs.declared.orders.inside.Inside.{Inside}
use Rattle.ng_core_apply.specs.declared.orders.inside.Inside.TheVariants.{Done, Left}
use Rattle.ng_core_state.specs.step.Steps.{IsStep, world_at}
use Rattle.ng_core_apply.proofs.orders.InsideSteps.{inside_step}
use Rattle.ng_core_state.proofs.step.Stepping.{step_as}
use Rattle.ng_core_state.specs.declared.state.State.{State}

-- an order looks at nothing of its message but the sender and the header
same_order : (w : World) (item : Item) (node : NodeRecord) (msg : Message) (order : Order) → carry_out w item node msg order ≡ carry_out w item node (message_of msg.from msg.header) order
same_order w item node msg Shutdown = refl
same_order w item node msg (Mkpeer kind ours theirs) = refl
same_order w item node msg (Connect address ours theirs) = refl
same_order w item node msg (Rename name) = refl
same_order w item node msg (Rmhook hook) = refl
same_order w item node msg (Asks question) = refl

same_read : (w : World) (item : Item) (node : NodeRecord) (msg : Message) (read : Result Order Errno) → ordered_by w item node msg read ≡ ordered_by w item node (message_of msg.from msg.header) read
same_read w item node msg (Ok order) = same_order w item node msg order
same_read w item node msg (Err errno) = refl

-- a message makes the changes of its class
pub class_step : {B : Type 0} (s : State B) (item : Item) (a : RunState) (node : NodeRecord) (msg : Message) (class : MessageClass) → IsInside s item a node → item.body ≡ Msg msg → class_of (kind_at node) msg ≡ class → IsStep s item a node (message_by (world_at a item) item node msg class)
class_step s item a node msg class I is of = inside_step s item a node (Msg msg) (message_by (world_at a item) item node msg class) I is refl (ap (message_by (world_at a item) item node msg) of)

-- an order makes those of the order that was read
pub order_step : {B : Type 0} (s : State B) (item : Item) (a : RunState) (node : NodeRecord) (msg : Message) (read : Result Order Errno) → IsInside s item a node → item.body ≡ Msg msg → class_of (kind_at node) msg ≡ AnOrder → read_order msg.header.cmd msg.args ≡ read
    → IsStep s item a node (ordered_by (world_at a item) item node (message_of msg.from msg.header) read)
order_step s item a node msg read I is of e =
    subst (IsStep s item a node) (ap (ordered_by (world_at a item) item node msg) e ∙ same_read (world_at a item) item node msg read) (class_step s item a node msg AnOrder I is of)

pub left_by : (node : NodeRecord) (item : Item) (msg : Message) (class : MessageClass) → item.body ≡ Msg msg → class_of (kind_at node) msg ≡ class → is_left (kind_at node) item.body ≡ is_left_message class msg
left_by node item msg class is of = ap (is_left (kind_at node)) is ∙ ap (λ (c : MessageClass). is_left_message c msg) of

no_question : (q : Result Question Errno) → changes_as_read (as_order q) ≡ true → ⊥
no_question (Ok question) e = true≢false (sym e)
no_question (Err errno) e = true≢false (sym e)

-- an order that changes the graph isn't a reader
pub order_writes : (number : ℕ) (args : List ℕ) → changes_as_read (read_order number args) ≡ true → is_reader_number number ≡ false
order_writes number args e = by (is_reader_number number) e
  where
    by : (b : Bool) → changes_as_read (read_by_mode b number args) ≡ true → b ≡ false
    by false e = refl
    by true e = absurd (no_question (read_question number args) e)

same_kind_of : (o : Option NodeRecord) (r : Option Kind) (kind : Kind) (node : NodeRecord) → r ≡ option_map kind_at o → r ≡ Some kind → o ≡ Some node → kind ≡ kind_at node
same_kind_of o r kind node is some here =
    let e : Some kind ≡ Some (kind_at node) = sym some ∙ is ∙ ap (option_map kind_at) here in cc

-- the class of a message at the node, as it was found by the node's kind
pub class_here : {B : Type 0} (s : State B) (item : Item) (a : RunState) (node : NodeRecord) (r : Option Kind) (kind : Kind) (msg : Message) (class found : MessageClass) → IsInside s item a node
    → r ≡ option_map kind_at (node_in s.graph.nodes item.to) → r ≡ Some kind → found ≡ class_of kind msg → found ≡ class → class_of (kind_at node) msg ≡ class
class_here s item a node r kind msg class found I is some of e =
    ap (λ (k : Kind). class_of k msg) (sym (same_kind_of (node_in s.graph.nodes item.to) r kind node is some (ap (λ (l : List (Option NodeRecord)). node_in l item.to) I.stands.graph.nodes ∙ I.at.here)))
    ∙ sym of ∙ e

-- an answer that is told
pub answer_step : {B : Type 0} (s : State B) (item : Item) (a : RunState) (node : NodeRecord) (msg : Message) → IsInside s item a node → item.body ≡ Msg msg → class_of (kind_at node) msg ≡ AnAnswer → IsStep s item a node (told_by item.tag item.body)
answer_step s item a node msg I is of = step_as s item a node (told_by item.tag (Msg msg)) (told_by item.tag item.body) (sym (ap (told_by item.tag) is)) (class_step s item a node msg AnAnswer I is of)

-- what became of an order is what became of its item
pub read_became : {B : Type 0} (old new : State B) (item : Item) (msg : Message) (read : Result Order Errno) (inside : Inside) → item.body ≡ Msg msg → ((a : RunState) (node : NodeRecord) → IsInside old item a node → class_of (kind_at node) msg ≡ AnOrder)
    → read_order msg.header.cmd msg.args ≡ read → ReadBecame old new item msg.from msg.header read inside → Became old new item inside
read_became old new item msg read Done is of e R = λ a node I. (left_by node item msg AnOrder is (of a node I) ∙ ap removes_as_read e ∙ R.0, R.1 a node (order_step old item a node msg read I is (of a node I) e))
read_became old new item msg read (Left it) is of e R = (R.0, R.1, λ a node I. left_by node item msg AnOrder is (of a node I) ∙ ap removes_as_read e ∙ R.2)

pub if_ok : {A E : Type 0} {P Q : A → Type 0} (r : Result A E) → ((x : A) → P x → Q x) → IfOk r P → IfOk r Q
if_ok (Ok x) f p = f x p
if_ok (Err e) f p = p
