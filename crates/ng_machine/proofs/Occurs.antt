-- What changes an item can bring at its node, by its body.
use Rattle.std.proofs.Common.{◌≡◌, ℕ, Bool, true, false, not, List, [], refl, ap, ◌∙◌}
use Rattle.std.specs.declared.option.Option.{Option}
use Rattle.std.specs.declared.option.Option.TheVariants.{None, Some}
use Rattle.std.specs.declared.result.Result.{Result}
use Rattle.std.specs.declared.result.Result.TheVariants.{Ok, Err}
use Rattle.ng_base.specs.declared.errno.Errno.{Errno}
use Rattle.ng_base.specs.declared.ids.LinkId.{LinkId}
use Rattle.ng_base.specs.declared.ids.NodeId.{NodeId}
use Rattle.ng_base.specs.declared.kind.Kind.{Kind}
use Rattle.ng_base.specs.Kind.{kind_named}
use Rattle.ng_message.specs.declared.message.Msg.{Msg as Message}
use Rattle.ng_message.specs.Numbers.{is_reader_number}
use Rattle.ng_path.specs.Address.{Address}
use Rattle.ng_machine.specs.declared.body.Body.{Body}
use Rattle.ng_machine.specs.declared.body.Body.TheVariants.{Frame, Msg, Join2, Join3, Undo, Leave, Rebind, Learn}
use Rattle.ng_machine.specs.declared.body.Door.TheVariants.{Hook as ByHook}
use Rattle.ng_machine.specs.declared.body.Exit.{Exit}
use Rattle.ng_machine.specs.declared.farewell.Farewell.TheVariants.{Stay}
use Rattle.ng_machine.specs.declared.hook.Hook.{Hook}
use Rattle.ng_machine.specs.declared.item.Item.{Item}
use Rattle.ng_machine.specs.declared.told.Told.TheVariants.{Refused, Answer}
use Rattle.ng_machine.specs.Words.{Has}
use Rattle.ng_machine.specs.Errors.{enxio}
use Rattle.ng_machine.specs.Body.{is_writer}
use Rattle.ng_machine.specs.Rules.{farewell_of}
use Rattle.ng_machine.specs.Case.{kept_after, outcome_of}
use Rattle.ng_machine.specs.World.{World, NodeRecord, state_of, kind_at, new_hook, with_hook, without_hook, without_hooks, with_changed_hook, settle_hook, bind_to, blank_node, link_id, next_node}
use Rattle.ng_machine.specs.Walk.{walk}
use Rattle.ng_machine.specs.Change.{Change, Sets, Makes, Retires, Accepts, Posts, Notes, Note, Tells, Refuses, Exits, Links, items_of}
use Rattle.ng_machine.specs.Order.{Order, Shutdown, Mkpeer, Connect, Rename, Rmhook, Asks, Question, read_order, read_by_mode, read_question, as_order}
use Rattle.ng_machine.specs.Retire.{stays}
use Rattle.ng_machine.specs.Connect.{unless}
use Rattle.ng_machine.specs.Generic.{mkpeer, mkpeer_refusal, makes, answer_to, answer_bytes, ordered_by}
use Rattle.ng_machine.specs.Effect.{AnAnswer, AnOrder, OfKind, class_of, message_by, effect_at}

-- the message is this order at the node
pub record IsOrder (node : NodeRecord) (msg : Message) (order : Order) : Type 0 where
  pub class : class_of (kind_at node) msg ≡ AnOrder
  pub reads : read_order msg.header.cmd msg.args ≡ Ok order

-- the message makes a node of the kind
pub record MakesPeer (w : World) (node : NodeRecord) (msg : Message) (name ours theirs : List ℕ) (kind : Kind) : Type 0 where
  pub order : IsOrder node msg (Mkpeer name ours theirs)
  pub kind_is : kind_named name ≡ Some kind
  pub free : mkpeer_refusal w node kind ours theirs ≡ None

-- how the item's node is after
pub data Becomes (w : World) (item : Item) (node : NodeRecord) : Body → NodeRecord → Type 0 where
  ByRule : (body : Body) → Becomes w item node body (record node { kept = kept_after (state_of node) body })
  WithPeer : (msg : Message) (name ours theirs : List ℕ) (kind : Kind) → MakesPeer w node msg name ours theirs kind
      → Becomes w item node (Msg msg) (with_hook node (new_hook ours (link_id w.next_link) (next_node w) theirs true))
  WithHook : (msg : Message) (path ours theirs : List ℕ) (address : Address) (peer : NodeId) → IsOrder node msg (Connect path ours theirs) → walk w item.to address ≡ Some peer
      → Becomes w item node (Msg msg) (with_hook node (new_hook ours (link_id w.next_link) peer theirs false))
  Joined : (hook : List ℕ) (link : LinkId) (peer : NodeId) (peer_hook : List ℕ) → Becomes w item node (Join2 hook link peer peer_hook) (with_hook node (new_hook hook link peer peer_hook true))
  Renamed : (msg : Message) (name : List ℕ) → IsOrder node msg (Rename name) → Becomes w item node (Msg msg) (record node { name = Some name })
  Cut : (body : Body) (name : List ℕ) → is_writer (kind_at node) body ≡ true → Becomes w item node body (without_hook node name)
  Emptied : (msg : Message) → IsOrder node msg Shutdown → Becomes w item node (Msg msg) (without_hooks node)
  Settled : (hook : List ℕ) (link : LinkId) (name : List ℕ) → Becomes w item node (Join3 hook link) (with_changed_hook node name settle_hook)
  Bound : (hook : List ℕ) (old new : LinkId) (peer : NodeId) (peer_hook name : List ℕ) → Becomes w item node (Rebind hook old new peer peer_hook) (with_changed_hook node name (bind_to new peer peer_hook))

-- which node it makes
pub data MakesNode (w : World) (item : Item) (node : NodeRecord) : Body → NodeRecord → Type 0 where
  Peer : (msg : Message) (name ours theirs : List ℕ) (kind : Kind) → MakesPeer w node msg name ours theirs kind
      → MakesNode w item node (Msg msg) (with_hook (blank_node None kind) (new_hook theirs (link_id w.next_link) item.to ours true))

-- why the item's node goes
pub data Goes (node : NodeRecord) : Body → Type 0 where
  ShutDown : (msg : Message) → IsOrder node msg Shutdown → (farewell_of (kind_at node) ≡ Stay → ⊥) → Goes node (Msg msg)
  LastRemoved : (msg : Message) (hook name : List ℕ) → IsOrder node msg (Rmhook hook) → stays (without_hook node name) ≡ false → Goes node (Msg msg)
  LastLost : (hook : List ℕ) (link : LinkId) (name : List ℕ) → stays (without_hook node name) ≡ false → Goes node (Leave hook link)

-- which items it brings: for which node, with which body and tag
pub data Brings (w : World) (item : Item) (node : NodeRecord) : Body → NodeId → Body → Option ℕ → Type 0 where
  ToLearn : (hook : List ℕ) (link : LinkId) (packet addr : List ℕ) → (outcome_of (state_of node) (Frame (ByHook hook) (Some link) packet)).learn ≡ Some addr
      → Brings w item node (Frame (ByHook hook) (Some link) packet) item.to (Learn hook link addr) None
  Replied : (msg : Message) (bytes : List ℕ) → class_of (kind_at node) msg ≡ OfKind → (outcome_of (state_of node) (Msg msg)).answer ≡ Some bytes
      → Brings w item node (Msg msg) msg.from (Msg (answer_to item.to msg bytes)) item.tag
  Answered : (msg : Message) (question : Question) → IsOrder node msg (Asks question)
      → Brings w item node (Msg msg) msg.from (Msg (answer_to item.to msg (answer_bytes w item.to node question))) item.tag
  ToLeave : (body : Body) (hook : Hook) → Brings w item node body hook.peer.node (Leave hook.peer.hook hook.link) None
  ToJoin : (msg : Message) (path ours theirs : List ℕ) (peer : NodeId) → IsOrder node msg (Connect path ours theirs) → Brings w item node (Msg msg) peer (Join2 theirs (link_id w.next_link) item.to ours) item.tag
  ToRebind : (msg : Message) (from to : Hook) → Has from node.hooks → Has to node.hooks
      → Brings w item node (Msg msg) from.peer.node (Rebind from.peer.hook from.link (link_id w.next_link) to.peer.node to.peer.hook) item.tag
  HasJoined : (hook : List ℕ) (link : LinkId) (peer : NodeId) (peer_hook : List ℕ) → Brings w item node (Join2 hook link peer peer_hook) peer (Join3 peer_hook link) item.tag
  HasRefused : (hook : List ℕ) (link : LinkId) (peer : NodeId) (peer_hook : List ℕ) (errno : Errno) → Brings w item node (Join2 hook link peer peer_hook) peer (Undo peer_hook link errno) item.tag
  HasGone : (body : Body) (p : Item) (link : LinkId) (peer : NodeId) (peer_hook : List ℕ) → Has p (items_of w item.to) → Brings w item node body peer (Undo peer_hook link enxio) p.tag

-- what it notes
pub data NotesOf (item : Item) (node : NodeRecord) : Body → Note → Type 0 where
  Fails : (body : Body) (command : ℕ) (errno : Errno) → NotesOf item node body (Tells (Refused command errno []))
  Hears : (msg : Message) (command : ℕ) → class_of (kind_at node) msg ≡ AnAnswer → item.tag ≡ Some command
      → NotesOf item node (Msg msg) (Tells (Answer command msg.from msg.header.typecookie msg.header.cmd msg.args))
  CountsRefused : (body : Body) → NotesOf item node body Refuses
  LetsOut : (body : Body) (exit : Exit) (hook packet : List ℕ) → Has (exit, packet) (outcome_of (state_of node) body).leaves → NotesOf item node body (Exits exit hook packet)
  UsesLink : (body : Body) → NotesOf item node body Links

abbrev pub Occurs : World → Item → NodeRecord → Body → Change → Type 0
Occurs w item node body (Sets now) = Becomes w item node body now
Occurs w item node body (Makes kind made) = MakesNode w item node body made
Occurs w item node body Retires = Goes node body
Occurs w item node body (Accepts to brought tag) = Brings w item node body to brought tag
Occurs w item node body (Posts hook packet) = Has (hook, packet) (outcome_of (state_of node) body).sends
Occurs w item node body (Notes x) = NotesOf item node body x

-- an order that asks nothing writes
pub order_writes : (node : NodeRecord) (msg : Message) (order : Order) → IsOrder node msg order → ((question : Question) → order ≡ Asks question → ⊥) → is_writer (kind_at node) (Msg msg) ≡ true
order_writes node msg order is none = by (is_reader_number msg.header.cmd) is.reads
  where
    asked : (r : Result Question Errno) → as_order r ≡ Ok order → ⊥
    asked (Ok question) e = none question (let same : order ≡ Asks question = cc e in same)
    asked (Err errno) e = cc e

    by : (b : Bool) → read_by_mode b msg.header.cmd msg.args ≡ Ok order → not b ≡ true
    by true e = absurd (asked (read_question msg.header.cmd msg.args) e)
    by false e = refl

-- what else an item brings that makes a node: nothing
pub makes_only : (w : World) (item : Item) (node : NodeRecord) (msg : Message) (name ours theirs : List ℕ) (kind : Kind) → MakesPeer w node msg name ours theirs kind → effect_at w item node (Msg msg) ≡ makes w item node kind ours theirs
makes_only w item node msg name ours theirs kind made =
    ap (message_by w item node msg) made.order.class
    ∙ ap (ordered_by w item node msg) made.order.reads
    ∙ ap (λ (k : Option Kind). mkpeer w item node k ours theirs) made.kind_is
    ∙ ap (λ (e : Option Errno). unless e item.tag (makes w item node kind ours theirs)) made.free
