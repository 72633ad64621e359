-- What is kept after a node goes, with what waits for it.
use Rattle.std.proofs.Common.{◌≡◌, ◌≢◌, ℕ, List, length, map, set, get_or, false, not, sym, ap, ◌∙◌, subst, ⊎_elim, arith, length-set}
use Rattle.std.proofs.lemmas.List.{get_or-set_other}
use Rattle.std.proofs.lemmas.Bool.{cases_eq, ne_eqb, eqb-false, not-true}
use Rattle.std.specs.declared.option.Option.{Option}
use Rattle.std.specs.declared.option.Option.TheVariants.{None}
use Rattle.ng_base.specs.declared.ids.NodeId.{NodeId}
use Rattle.ng_machine.specs.declared.item.Item.{Item}
use Rattle.ng_machine.specs.Body.{is_at}
use Rattle.ng_machine.specs.Change.{retire}
use Rattle.ng_machine.specs.Run.{RunState, Taken}
use Rattle.ng_machine.specs.SoundRun.{HasNode}
use Rattle.ng_machine.specs.Words.{Has}
use Rattle.ng_machine.specs.World.{NodeRecord, node_id, node_in}
use Rattle.ng_machine.proofs.NodeLists.{get_gone, some_none}
use Rattle.ng_machine.proofs.Standing.{of_filter, to_filter}
use Rattle.ng_queue.specs.pending.Holds.{HoldsItems, in_world}
use Rattle.ng_queue.specs.tie.Tie.{elsewhere}
use Rattle.ng_topology.specs.OfWorld.{IsOfWorld}
use Rattle.ng_topology.specs.Topology.{Topology, retire_node}
use Rattle.ng_core_state.specs.declared.state.State.{State}
use Rattle.ng_core_state.specs.Lent.{Lent, WriterOut}
use Rattle.ng_core_state.specs.Stands.{Stands, port_of}

apart : (n : ℕ) (q : Item) (ps : List Item) → Has q (elsewhere n ps) → Has q ps × (q.to.0 ≢ n)
apart n q ps h = let f = of_filter (λ (x : Item). not (is_at (node_id n) x)) q ps h in (f.0, eqb-false q.to.0 n (not-true (is_at (node_id n) q) f.1))

still_there : (nodes : List (Option NodeRecord)) (n : ℕ) (p : Item) → p.to.0 ≢ n → HasNode nodes p → HasNode (set nodes n None) p
still_there nodes n p d h = (h.0, get_or-set_other nodes n p.to.0 None None d ∙ h.1, h.2)

still_out : (node : NodeRecord) (pending : List Item) (taken : List Taken) (n m : ℕ) → m ≢ n → WriterOut node pending taken m → WriterOut node (elsewhere n pending) taken m
still_out node pending taken n m d W = record {
  item = W.item;
  is_pending = to_filter (λ (x : Item). not (is_at (node_id n) x)) W.item pending W.is_pending (ap not (ne_eqb W.item.to.0 n (λ e. d (sym W.node_is ∙ e))));
  node_is = W.node_is;
  is_taken = W.is_taken;
  writes = W.writes;
  job = W.job;
}

-- the node is no more
pub node_gone : (t : Topology) (id : NodeId) → node_in (retire_node t id).nodes id ≡ None
node_gone t id = get_gone t.nodes id.0

lent_gone : (t : Topology) (id : NodeId) (pending : List Item) (taken : List Taken) → Lent t pending taken → Lent (retire_node t id) (elsewhere id.0 pending) taken
lent_gone t id pending taken L n node is away = ⊎_elim
    (λ (e : n ≡ id.0). absurd (some_none node (sym is ∙ ap (λ (k : ℕ). get_or (set t.nodes id.0 None) k None) e ∙ get_gone t.nodes id.0)))
    (λ (d : n ≢ id.0). still_out node pending taken id.0 n d (L n node (sym (get_or-set_other t.nodes id.0 n None None d) ∙ is) (sym (get_or-set_other t.home id.0 n false false d) ∙ away)))
    (cases_eq n id.0)

pub stands_retired : {B : Type 0} (s t : State B) (a : RunState) (at : NodeId) → Stands s a → HoldsItems t.pending (in_world a (retire a.world at)) → t.graph ≡ retire_node s.graph at
    → length t.pending.queues.lists ≡ length s.pending.queues.lists → t.told.items ≡ s.told.items → t.ports.items ≡ s.ports.items
    → Stands t (in_world a (retire a.world at))
stands_retired s t a at S H graph lists told ports = record {
  items = H;
  there = λ p h. let g = apart at.0 p a.world.pending h in still_there a.world.nodes at.0 p g.1 (S.there p g.0);
  graph = subst (λ (g : Topology). IsOfWorld g (retire a.world at)) (sym graph) (record { nodes = ap (λ (l : List (Option NodeRecord)). set l at.0 None) S.graph.nodes; stock = S.graph.stock; next_link = S.graph.next_link });
  homes = subst (λ (g : Topology). length g.home ≡ length g.nodes) (sym graph) (length-set s.graph.home at.0 false ∙ S.homes ∙ sym (length-set s.graph.nodes at.0 None));
  lent = subst (λ (g : Topology). Lent g (elsewhere at.0 a.world.pending) a.taken) (sym graph) (lent_gone s.graph at a.world.pending a.taken S.lent);
  places = let e = length-set a.world.nodes at.0 None in let le = S.places in omega arith;
  told = told ∙ S.told;
  ports = ap (map port_of) ports ∙ S.ports;
}

-- places at other nodes are still there
pub spare_elsewhere : (before after : List ℕ) (m n : ℕ) → after ≡ set before m 0 → n ≢ m → get_or after n 0 ≡ get_or before n 0
spare_elsewhere before after m n e d = ap (λ (l : List ℕ). get_or l n 0) e ∙ get_or-set_other before m n 0 0 d
