-- An item is taken, and its node is lent.
use Rattle.std.proofs.Common.{◌≡◌, ◌≢◌, ℕ, List, [], ◌∷◌, ◌++◌, length, map, get_or, is_some, Bool, true, false, ◌||◌, ◌==◌, refl, sym, ap, ◌∙◌, subst, ⊎_elim, arith, true≢false, length-set}
use Rattle.std.proofs.lemmas.List.{get_or-set_other}
use Rattle.std.proofs.lemmas.Bool.{eq-eqb, cases_eq}
use Rattle.std.specs.declared.option.Option.{Option}
use Rattle.std.specs.declared.option.Option.TheVariants.{None, Some}
use Rattle.ng_base.specs.declared.ids.NodeId.{NodeId}
use Rattle.ng_machine.specs.declared.item.Item.{Item}
use Rattle.ng_machine.specs.Body.{is_writer}
use Rattle.ng_machine.specs.Desk.{Writes, job_at, job_of}
use Rattle.ng_machine.specs.Orderly.{MayTake, TakenBeside}
use Rattle.ng_machine.specs.Run.{RunState, Taken}
use Rattle.ng_machine.specs.Words.{Has}
use Rattle.ng_machine.specs.World.{NodeRecord, node_in, node_at, state_of, kind_at}
use Rattle.ng_machine.proofs.NodeLists.{node_same}
use Rattle.ng_queue.specs.declared.entry.Hold.{Hold}
use Rattle.ng_queue.specs.Queue.{head, hold_of}
use Rattle.ng_queue.specs.Queues.{IsLeast, list_at, ready_unless}
use Rattle.ng_machine.specs.story.Story.{IsNext}
use Rattle.ng_queue.specs.tie.Tie.{taking}
use Rattle.ng_queue.proofs.tie.OfQueues.{taken_push}
use Rattle.ng_queue.proofs.tie.Heads.{out_taken}
use Rattle.ng_queue.specs.declared.pending.pending.Pending.{Pending}
use Rattle.ng_queue.specs.pending.Holds.{HoldsItems, with_taken}
use Rattle.ng_queue.proofs.pending.HeldItems.{next_held}
use Rattle.ng_topology.specs.OfWorld.{IsOfWorld}
use Rattle.ng_topology.specs.Topology.{Topology, is_home, lend_box}
use Rattle.ng_core_state.specs.declared.state.State.{State}
use Rattle.ng_core_state.specs.declared.handed.Tool.{Tool}
use Rattle.ng_core_state.specs.Handed.{IsJobBy}
use Rattle.ng_core_state.specs.Lent.{WriterOut, Lent}
use Rattle.ng_core_state.specs.Stands.{Stands, port_of}
use Rattle.ng_core_state.proofs.StandsAfter.{stands_with}

pub same_some : {A : Type 0} (x y : A) → Some x ≡ Some y → x ≡ y
same_some x y e = cc

pub writer_more : (node : NodeRecord) (pending : List Item) (taken : List Taken) (id seat n : ℕ) → WriterOut node pending taken n → WriterOut node pending (taken ++ taking id seat ∷ []) n
writer_more node pending taken id seat n W = record {
  item = W.item;
  is_pending = W.is_pending;
  node_is = W.node_is;
  is_taken = taken_push W.item.id.0 id seat taken ∙ ap (λ (b : Bool). b || (id == W.item.id.0)) W.is_taken;
  writes = W.writes;
  job = W.job;
}

pub stands_taken : {B : Type 0} (s t : State B) (a : RunState) (item : Item) (seat : ℕ) → Stands s a → HoldsItems t.pending (with_taken a item.id.0 seat) → t.graph ≡ s.graph
    → length t.pending.queues.lists ≡ length s.pending.queues.lists → t.told.items ≡ s.told.items → t.ports.items ≡ s.ports.items → Stands t (with_taken a item.id.0 seat)
stands_taken s t a item seat S H graph lists told ports =
    stands_with s t a (with_taken a item.id.0 seat) S H graph lists told ports (record { nodes = refl; stock = refl; next_link = refl; told = refl; ports = refl }) S.there
    (λ n node is away. writer_more node a.world.pending a.taken item.id.0 seat n (S.lent n node is away))

-- the node of a writer that may be taken is at home
no_writer_out : (a : RunState) (item : Item) (node : NodeRecord) → MayTake a item → WriterOut node a.world.pending a.taken item.to.0 → ⊥
no_writer_out a item node M W =
    let b : TakenBeside a item W.item = record { pending = W.is_pending; same_node = node_same W.item.to item.to W.node_is; taken = out_taken a.taken W.item.id W.is_taken } in
    true≢false (sym W.writes ∙ M.no_writer W.item b)

pub least_home : {B : Type 0} (s : State B) (a : RunState) (item : Item) (node : NodeRecord) → Stands s a → MayTake a item → node_in s.graph.nodes item.to ≡ Some node → is_home s.graph item.to ≡ true
least_home s a item node S M here = by (is_home s.graph item.to) refl
  where
    by : (b : Bool) → is_home s.graph item.to ≡ b → is_home s.graph item.to ≡ true
    by true e = e
    by false e = absurd (no_writer_out a item node M (S.lent item.to.0 node here e))

pub writer_out : (a : RunState) (item : Item) (seat : ℕ) (node : NodeRecord) → Has item a.world.pending → item.writer ≡ true → job_at item (Some node) ≡ Writes item (state_of node)
    → WriterOut node a.world.pending (a.taken ++ taking item.id.0 seat ∷ []) item.to.0
writer_out a item seat node h writes job = record {
  item = item;
  is_pending = h;
  node_is = refl;
  is_taken = taken_push item.id.0 item.id.0 seat a.taken ∙ (let e = eq-eqb item.id.0 item.id.0 refl in grind arith);
  writes = writes;
  job = job;
}

-- THE NODE OF AN ITEM

pub record ItemNode {B : Type 0} (s : State B) (a : RunState) (item : Item) : Type 0 where
  pub node : NodeRecord
  pub node_is : node_at a.world item.to ≡ Some node
  pub here : node_in s.graph.nodes item.to ≡ Some node
  pub mode : item.writer ≡ is_writer (kind_at node) item.body

pub item_node : {B : Type 0} (s : State B) (a : RunState) (item : Item) → Stands s a → Has item a.world.pending → ItemNode s a item
item_node s a item S h =
    let t = S.there item h in
    record { node = t.0; node_is = t.1; here = ap (λ (l : List (Option NodeRecord)). node_in l item.to) S.graph.nodes ∙ t.1; mode = t.2 }

ready_head : (h : Option Hold) (o : Option Item) (id : ℕ) → ready_unless h o ≡ Some id → is_some o ≡ true
ready_head None None id e = absurd (true≢false (sym (ap is_some e)))
ready_head None (Some p) id e = refl
ready_head (Some why) o id e = absurd (true≢false (sym (ap is_some e)))

some_item : (o : Option Item) → is_some o ≡ true → (item : Item) × (o ≡ Some item)
some_item None e = absurd (true≢false (sym e))
some_item (Some p) e = (p, refl)

pub record LeastNode {B : Type 0} (s : State B) (a : RunState) (n : ℕ) : Type 0 where
  pub item : Item
  pub head_is : head (list_at s.pending.queues.lists n) ≡ Some item
  pub next : IsNext a item
  pub at : ItemNode s a item

pub least_node : {B : Type 0} (s : State B) (a : RunState) (n : ℕ) → Stands s a → IsLeast s.pending.queues.lists n → LeastNode s a n
least_node s a n S L =
    let h = some_item (head (list_at s.pending.queues.lists n)) (ready_head (hold_of (list_at s.pending.queues.lists n)) (head (list_at s.pending.queues.lists n)) L.id L.is_ready) in
    let N = next_held s.pending a n h.0 S.items L h.1 in
    record { item = h.0; head_is = h.1; next = N.0; at = item_node s a h.0 S N.0.may.pending }

-- the job of an item that is next, by what the head of its queue is worked on with
pub next_job : {B : Type 0} (s : State B) (a : RunState) (at : ℕ) (t : Tool) (item : Item) (node : NodeRecord) → Stands s a → head (list_at s.pending.queues.lists at) ≡ Some item → node_at a.world item.to ≡ Some node
    → ((b : RunState) (x : Item) (r : NodeRecord) → Stands s b → head (list_at s.pending.queues.lists at) ≡ Some x → node_at b.world x.to ≡ Some r → IsJobBy t x r (job_at x (Some r)))
    → IsJobBy t item node (job_of a.world item)
next_job s a at t item node S head_is here by = subst (IsJobBy t item node) (sym (ap (job_at item) here)) (by a item node S head_is here)

-- A NODE IS LENT

pub stands_lent : {B : Type 0} (s t : State B) (a : RunState) (at : NodeId) (node : NodeRecord) → Stands s a → node_at a.world at ≡ Some node → WriterOut node a.world.pending a.taken at.0
    → t.graph ≡ lend_box s.graph at → t.pending ≡ s.pending → t.told.items ≡ s.told.items → t.ports.items ≡ s.ports.items → Stands t a
stands_lent s t a at node S here W graph pending told ports = record {
  items = subst (λ (p : Pending). HoldsItems p a) (sym pending) S.items;
  there = S.there;
  graph = subst (λ (g : Topology). IsOfWorld g a.world) (sym graph) (record { nodes = S.graph.nodes; stock = S.graph.stock; next_link = S.graph.next_link });
  homes = subst (λ (g : Topology). length g.home ≡ length g.nodes) (sym graph) (length-set s.graph.home at.0 false ∙ S.homes);
  lent = subst (λ (g : Topology). Lent g a.world.pending a.taken) (sym graph) (λ n r is away. ⊎_elim
      (λ (e : n ≡ at.0).
      let same : node ≡ r = same_some node r (sym here ∙ ap (λ (l : List (Option NodeRecord)). node_in l at) (sym S.graph.nodes) ∙ ap (λ (k : ℕ). get_or s.graph.nodes k None) (sym e) ∙ is) in
      subst (λ (x : NodeRecord). WriterOut x a.world.pending a.taken n) same (subst (WriterOut node a.world.pending a.taken) (sym e) W))
      (λ (d : n ≢ at.0). S.lent n r is (sym (get_or-set_other s.graph.home at.0 n false false d) ∙ away))
      (cases_eq n at.0));
  places = let e = ap (λ (p : Pending). length p.queues.lists) pending in let le = S.places in omega arith;
  told = told ∙ S.told;
  ports = ap (map port_of) ports ∙ S.ports;
}
