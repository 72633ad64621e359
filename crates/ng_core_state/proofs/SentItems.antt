-- Items are accepted and done, and packets are sent.
use Rattle.std.proofs.Common.{◌≡◌, ◌≢◌, ◌⊎◌, ℕ, ◌+◌, ◌<◌, ◌≤◌, List, [], ◌∷◌, ◌++◌, length, get_or, is_some, Bool, true, false, not, refl, sym, ap, ◌∙◌, subst, ⊎_elim, arith, true≢false}
use Rattle.std.proofs.lemmas.Bool.{cases_eq, ne_eqb, eqb-true}
use Rattle.std.specs.Prelude.{◌==◌, nat_lt}
use Rattle.std.specs.Option.{option_map}
use Rattle.std.specs.declared.option.Option.{Option}
use Rattle.std.specs.declared.option.Option.TheVariants.{None, Some}
use Rattle.ng_base.specs.declared.ids.NodeId.{NodeId}
use Rattle.ng_base.specs.declared.ids.Stamp.{Stamp}
use Rattle.ng_base.specs.declared.kind.Kind.{Kind}
use Rattle.ng_machine.specs.declared.body.Body.{Body}
use Rattle.ng_machine.specs.declared.hook.Hook.{Hook}
use Rattle.ng_machine.specs.declared.item.Item.{Item}
use Rattle.ng_machine.specs.Body.{is_writer}
use Rattle.ng_base.specs.declared.cause.Cause.TheVariants.{NoPeer, NodeGone, Full}
use Rattle.ng_machine.specs.Change.{accept, arrival, frames, lose, most_frames, send_if, send_joined}
use Rattle.ng_machine.specs.Run.{RunState, Taken}
use Rattle.ng_machine.specs.SoundRun.{HasNode}
use Rattle.ng_machine.specs.Words.{Has}
use Rattle.ng_machine.specs.World.{World, NodeRecord, node_in, node_at, kind_at, item_id, node_id}
use Rattle.ng_machine.proofs.NodeLists.{given_number}
use Rattle.ng_machine.proofs.Standing.{in_front, in_pushed, of_filter, to_filter}
use Rattle.ng_queue.specs.tie.Tie.{untaken, without, IsSorted}
use Rattle.ng_queue.specs.tie.TieLaws.{one}
use Rattle.ng_queue.proofs.tie.SortedItems.{sorted_one}
use Rattle.ng_queue.proofs.tie.OfQueues.{untaken_other}
use Rattle.ng_queue.specs.pending.Holds.{HoldsItems, IsOutIn, in_world, done_from, with_untaken}
use Rattle.ng_topology.specs.Topology.{Topology, is_home}
use Rattle.ng_core_state.specs.declared.state.State.{State}
use Rattle.ng_core_state.specs.Lent.{WriterOut, Lent}
use Rattle.ng_core_state.specs.Room.{goes_to}
use Rattle.ng_core_state.specs.Stands.{Stands, MayLeave}
use Rattle.ng_core_state.proofs.StandsAfter.{SameRest, stands_with}

-- a node that is there has a queue
pub has_queue : {B : Type 0} (s : State B) (a : RunState) (to : NodeId) (node : NodeRecord) → Stands s a → node_at a.world to ≡ Some node → to.0 < length s.pending.queues.lists
has_queue s a to node S here = let lt = given_number a.world.nodes to.0 node here in let le = S.places in omega arith

-- the item that is accepted
abbrev newcomer : ℕ → NodeId → Kind → Body → Option ℕ → Stamp → Item
newcomer n to kind body tag stamp = record { id = item_id n; to = to; body = body; writer = is_writer kind body; tag = tag; stamp = stamp }

more_out : (node : NodeRecord) (pending : List Item) (taken : List Taken) (x : Item) (n : ℕ) → WriterOut node pending taken n → WriterOut node (pending ++ x ∷ []) taken n
more_out node pending taken x n W = record { item = W.item; is_pending = in_front W.item pending (x ∷ []) W.is_pending; node_is = W.node_is; is_taken = W.is_taken; writes = W.writes; job = W.job }

pub stands_accepted : {B : Type 0} (s t : State B) (a : RunState) (node : NodeRecord) (to : NodeId) (kind : Kind) (body : Body) (tag : Option ℕ) (stamp : Stamp) → Stands s a → node_at a.world to ≡ Some node → kind_at node ≡ kind
    → HoldsItems t.pending (in_world a (accept a.world to kind body tag stamp)) → t.graph ≡ s.graph → length t.pending.queues.lists ≡ length s.pending.queues.lists → t.told.items ≡ s.told.items → t.ports.items ≡ s.ports.items
    → Stands t (in_world a (accept a.world to kind body tag stamp))
stands_accepted s t a node to kind body tag stamp S here k H graph lists told ports =
    stands_with s t a (in_world a (accept a.world to kind body tag stamp)) S H graph lists told ports (record { nodes = refl; stock = refl; next_link = refl; told = refl; ports = refl })
    (λ p h. ⊎_elim
    (λ (m : Has p a.world.pending). S.there p m)
    (λ (e : p ≡ newcomer a.world.next_item to kind body tag stamp). subst (HasNode a.world.nodes) (sym e) (node, here, ap (λ (z : Kind). is_writer z body) (sym k)))
    (in_pushed p (newcomer a.world.next_item to kind body tag stamp) a.world.pending h))
    (λ n r is away. more_out r a.world.pending a.taken (newcomer a.world.next_item to kind body tag stamp) n (S.lent n r is away))

-- numbers alone changed
pub stands_counted : {B : Type 0} (s t : State B) (a : RunState) (w : World) → Stands s a → HoldsItems t.pending (in_world a w) → t.graph ≡ s.graph → length t.pending.queues.lists ≡ length s.pending.queues.lists
    → t.told.items ≡ s.told.items → t.ports.items ≡ s.ports.items → SameRest a.world w → w.pending ≡ a.world.pending → Stands t (in_world a w)
stands_counted s t a w S H graph lists told ports R pending =
    stands_with s t a (in_world a w) S H graph lists told ports R
    (λ p h. subst (λ (nodes : List (Option NodeRecord)). HasNode nodes p) (sym R.nodes) (S.there p (subst (Has p) pending h)))
    (subst (λ (l : List Item). Lent s.graph l a.taken) (sym pending) S.lent)

-- AN ITEM IS DONE

-- another writer that is out is out still
still_out : (node : NodeRecord) (pending : List Item) (taken : List Taken) (p : Item) (n : ℕ) (W : WriterOut node pending taken n) → W.item.id.0 ≢ p.id.0 → WriterOut node (without p.id.0 pending) (untaken p.id.0 taken) n
still_out node pending taken p n W d = record {
  item = W.item;
  is_pending = to_filter (λ (x : Item). not (x.id.0 == p.id.0)) W.item pending W.is_pending (ap not (ne_eqb W.item.id.0 p.id.0 d));
  node_is = W.node_is;
  is_taken = untaken_other W.item.id.0 p.id.0 taken (λ e. d (sym e)) ∙ W.is_taken;
  writes = W.writes;
  job = W.job;
}

-- what is out with a box that is away is no item that may leave
not_its_own : (t : Topology) (pending : List Item) (p : Item) (n : ℕ) (x : Item) → IsSorted 0 pending → Has x pending → Has p pending → MayLeave t p → is_home t (node_id n) ≡ false → x.to.0 ≡ n → x.writer ≡ true → x.id.0 ≡ p.id.0 → ⊥
not_its_own t pending p n x s hx h may away node writes e =
    let same : x ≡ p = sorted_one 0 pending x p s hx h e in
    ⊎_elim
    (λ (reads : p.writer ≡ false). true≢false (sym writes ∙ ap (λ (y : Item). y.writer) same ∙ reads))
    (λ (home : is_home t p.to ≡ true).
    let to : n ≡ p.to.0 = sym node ∙ ap (λ (y : Item). y.to.0) same in
    true≢false (sym home ∙ ap (λ (k : ℕ). get_or t.home k false) (sym to) ∙ away))
    may

pub out_but : (t : Topology) (node : NodeRecord) (pending : List Item) (taken : List Taken) (p : Item) (n : ℕ) → IsSorted 0 pending → Has p pending → MayLeave t p → is_home t (node_id n) ≡ false → WriterOut node pending taken n
    → WriterOut node (without p.id.0 pending) (untaken p.id.0 taken) n
out_but t node pending taken p n s h may away W = ⊎_elim
    (λ (e : W.item.id.0 ≡ p.id.0). absurd (not_its_own t pending p n W.item s W.is_pending h may away W.node_is W.writes e))
    (λ (d : W.item.id.0 ≢ p.id.0). still_out node pending taken p n W d)
    (cases_eq W.item.id.0 p.id.0)

pub stands_done : {B : Type 0} (s t : State B) (a : RunState) (p : Item) → Stands s a → IsOutIn a p → MayLeave s.graph p → HoldsItems t.pending (done_from a p) → t.graph ≡ s.graph
    → length t.pending.queues.lists ≡ length s.pending.queues.lists → t.told.items ≡ s.told.items → t.ports.items ≡ s.ports.items → Stands t (done_from a p)
stands_done s t a p S o may H graph lists told ports =
    stands_with s t a (done_from a p) S H graph lists told ports (record { nodes = refl; stock = refl; next_link = refl; told = refl; ports = refl })
    (λ q h. S.there q (of_filter (λ (x : Item). not (x.id.0 == p.id.0)) q a.world.pending h).0)
    (λ n node is away. out_but s.graph node a.world.pending a.taken p n S.items.sorted o.0 may away (S.lent n node is away))

-- AN ITEM IS PUT BACK

untaken_still : (node : NodeRecord) (pending : List Item) (taken : List Taken) (p : Item) (n : ℕ) (W : WriterOut node pending taken n) → W.item.id.0 ≢ p.id.0 → WriterOut node pending (untaken p.id.0 taken) n
untaken_still node pending taken p n W d = record {
  item = W.item;
  is_pending = W.is_pending;
  node_is = W.node_is;
  is_taken = untaken_other W.item.id.0 p.id.0 taken (λ e. d (sym e)) ∙ W.is_taken;
  writes = W.writes;
  job = W.job;
}

untaken_but : (t : Topology) (node : NodeRecord) (pending : List Item) (taken : List Taken) (p : Item) (n : ℕ) → IsSorted 0 pending → Has p pending → MayLeave t p → is_home t (node_id n) ≡ false → WriterOut node pending taken n
    → WriterOut node pending (untaken p.id.0 taken) n
untaken_but t node pending taken p n s h may away W = ⊎_elim
    (λ (e : W.item.id.0 ≡ p.id.0). absurd (not_its_own t pending p n W.item s W.is_pending h may away W.node_is W.writes e))
    (λ (d : W.item.id.0 ≢ p.id.0). untaken_still node pending taken p n W d)
    (cases_eq W.item.id.0 p.id.0)

pub stands_back : {B : Type 0} (s t : State B) (a : RunState) (p : Item) → Stands s a → IsOutIn a p → MayLeave s.graph p → HoldsItems t.pending (with_untaken a p.id.0) → t.graph ≡ s.graph
    → length t.pending.queues.lists ≡ length s.pending.queues.lists → t.told.items ≡ s.told.items → t.ports.items ≡ s.ports.items → Stands t (with_untaken a p.id.0)
stands_back s t a p S o may H graph lists told ports =
    stands_with s t a (with_untaken a p.id.0) S H graph lists told ports (record { nodes = refl; stock = refl; next_link = refl; told = refl; ports = refl }) S.there
    (λ n node is away. untaken_but s.graph node a.world.pending a.taken p n S.items.sorted o.0 may away (S.lent n node is away))

-- A PACKET IS SENT

-- a node of that kind
pub record KindNode (o : Option NodeRecord) (kind : Kind) : Type 0 where
  pub node : NodeRecord
  pub is : o ≡ Some node
  pub kind_is : kind_at node ≡ kind

kind_by : (r : Option NodeRecord) (kind : Kind) → option_map kind_at r ≡ Some kind → KindNode r kind
kind_by None kind e = absurd (true≢false (sym (ap is_some e)))
kind_by (Some node) kind e = let k : kind_at node ≡ kind = cc in record { node = node; is = refl; kind_is = k }

pub kind_node : (nodes others : List (Option NodeRecord)) (id : NodeId) (kind : Kind) → nodes ≡ others → option_map kind_at (node_in nodes id) ≡ Some kind → KindNode (node_in others id) kind
kind_node nodes others id kind same e = kind_by (node_in others id) kind (ap (λ (l : List (Option NodeRecord)). option_map kind_at (node_in l id)) (sym same) ∙ e)

no_kind_by : (r : Option NodeRecord) → option_map kind_at r ≡ None → r ≡ None
no_kind_by None e = refl
no_kind_by (Some node) e = absurd (true≢false (ap is_some e))

-- no node of that number
pub no_node : (nodes others : List (Option NodeRecord)) (id : NodeId) → nodes ≡ others → option_map kind_at (node_in nodes id) ≡ None → node_in others id ≡ None
no_node nodes others id same e = no_kind_by (node_in others id) (ap (λ (l : List (Option NodeRecord)). option_map kind_at (node_in l id)) (sym same) ∙ e)

pub send_accepts : (w : World) (hook : Hook) (node : NodeRecord) (kind : Kind) (body : Body) (packet : List ℕ) (stamp : Stamp) → hook.joined ≡ true → node_at w hook.peer.node ≡ Some node → kind_at node ≡ kind
    → nat_lt (frames w) most_frames ≡ true → body ≡ arrival hook packet → accept w hook.peer.node kind body None stamp ≡ send_joined w hook hook.joined packet stamp
send_accepts w hook node kind body packet stamp j here k lt is =
    sym (ap (λ (b : Bool). send_joined w hook b packet stamp) j
    ∙ ap (λ (o : Option NodeRecord). send_if w hook o (nat_lt (frames w) most_frames) packet stamp) here
    ∙ ap (λ (b : Bool). send_if w hook (Some node) b packet stamp) lt
    ∙ ap (λ (z : Kind). accept w hook.peer.node z (arrival hook packet) None stamp) k
    ∙ ap (λ (b : Body). accept w hook.peer.node kind b None stamp) (sym is))

pub one_more : (hook : Hook) (n before after : ℕ) → before ≤ after → before + 1 ≤ after ⊎ (hook.peer.node.0 ≢ n) → before + one (goes_to (Some hook) n) ≤ after
one_more hook n before after le m = by (hook.peer.node.0 == n) refl
  where
    by : (b : Bool) → (hook.peer.node.0 == n) ≡ b → before + one b ≤ after
    by false e = omega arith
    by true e = ⊎_elim (λ (z : before + 1 ≤ after). z) (λ (d : hook.peer.node.0 ≢ n). absurd (d (eqb-true hook.peer.node.0 n e))) m

-- the causes for which a packet is lost
pub send_unjoined : (w : World) (hook : Hook) (packet : List ℕ) (stamp : Stamp) → hook.joined ≡ false → lose NoPeer w ≡ send_joined w hook hook.joined packet stamp
send_unjoined w hook packet stamp j = sym (ap (λ (b : Bool). send_joined w hook b packet stamp) j)

pub send_gone : (w : World) (hook : Hook) (packet : List ℕ) (stamp : Stamp) → hook.joined ≡ true → node_at w hook.peer.node ≡ None → lose NodeGone w ≡ send_joined w hook hook.joined packet stamp
send_gone w hook packet stamp j none =
    sym (ap (λ (b : Bool). send_joined w hook b packet stamp) j ∙ ap (λ (o : Option NodeRecord). send_if w hook o (nat_lt (frames w) most_frames) packet stamp) none)

pub send_full : (w : World) (hook : Hook) (node : NodeRecord) (packet : List ℕ) (stamp : Stamp) → hook.joined ≡ true → node_at w hook.peer.node ≡ Some node → nat_lt (frames w) most_frames ≡ false
    → lose Full w ≡ send_joined w hook hook.joined packet stamp
send_full w hook node packet stamp j here full =
    sym (ap (λ (b : Bool). send_joined w hook b packet stamp) j
    ∙ ap (λ (o : Option NodeRecord). send_if w hook o (nat_lt (frames w) most_frames) packet stamp) here
    ∙ ap (λ (b : Bool). send_if w hook (Some node) b packet stamp) full)
