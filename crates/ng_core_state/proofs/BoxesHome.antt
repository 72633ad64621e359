-- A box comes home.
use Rattle.std.proofs.Common.{◌≡◌, ◌≢◌, ℕ, ◌<◌, ◌≤◌, List, length, map, set, get_or, true, false, sym, ap, ◌∙◌, subst, ⊎_elim, arith, true≢false, length-set}
use Rattle.std.proofs.lemmas.List.{get_or-set_same, get_or-set_other}
use Rattle.std.proofs.lemmas.Bool.{cases_eq, cases_lt}
use Rattle.std.specs.Option.{option_map}
use Rattle.std.specs.declared.option.Option.{Option}
use Rattle.std.specs.declared.option.Option.TheVariants.{None, Some}
use Rattle.ng_base.specs.declared.ids.NodeId.{NodeId}
use Rattle.ng_machine.specs.declared.item.Item.{Item}
use Rattle.ng_machine.specs.Run.{RunState, Taken}
use Rattle.ng_machine.specs.State.{State as NodeState, kind_of}
use Rattle.ng_machine.specs.World.{NodeRecord, node_in, node_at, kind_at}
use Rattle.ng_machine.proofs.Kept.{node_set}
use Rattle.ng_machine.proofs.NodeLists.{given_number}
use Rattle.ng_queue.specs.declared.pending.pending.Pending.{Pending}
use Rattle.ng_queue.specs.pending.Holds.{HoldsItems, in_world}
use Rattle.ng_topology.specs.OfWorld.{IsOfWorld}
use Rattle.ng_topology.specs.Topology.{Topology, give_box, with_kept}
use Rattle.ng_core_state.specs.declared.state.State.{State}
use Rattle.ng_core_state.specs.Lent.{WriterOut, Lent}
use Rattle.ng_core_state.specs.Stands.{Stands, port_of}

-- what was so of a box that is away is so, since that box is another
lent_given : (t : Topology) (id : NodeId) (node : NodeRecord) (state : NodeState) (pending : List Item) (taken : List Taken) → node_in t.nodes id ≡ Some node → length t.home ≡ length t.nodes → Lent t pending taken → Lent (give_box t id state) pending taken
lent_given t id node state pending taken here homes L n r is away = ⊎_elim
    (λ (e : n ≡ id.0). by e)
    (λ (d : n ≢ id.0). L n r (sym (get_or-set_other t.nodes id.0 n (option_map (with_kept state.kept) (node_in t.nodes id)) None d) ∙ is) (sym (get_or-set_other t.home id.0 n true false d) ∙ away))
    (cases_eq n id.0)
  where
    by : n ≡ id.0 → WriterOut r pending taken n
    by e = ⊎_elim
        (λ (lt : id.0 < length t.home). absurd (true≢false (sym (ap (λ (k : ℕ). get_or (set t.home id.0 true) k false) e ∙ get_or-set_same t.home id.0 true false lt) ∙ away)))
        (λ (le : length t.home ≤ id.0). let known = given_number t.nodes id.0 node here in absurd (omega arith))
        (cases_lt id.0 (length t.home))

pub stands_home : {B : Type 0} (s t : State B) (a : RunState) (at : NodeId) (node : NodeRecord) (state : NodeState) → Stands s a → node_at a.world at ≡ Some node → kind_of state ≡ kind_at node
    → t.graph ≡ give_box s.graph at state → t.pending ≡ s.pending → t.told.items ≡ s.told.items → t.ports.items ≡ s.ports.items
    → Stands t (in_world a (record a.world { nodes = set a.world.nodes at.0 (Some (with_kept state.kept node)) }))
stands_home s t a at node state S here kind graph pending told ports =
    let found : node_in s.graph.nodes at ≡ Some node = ap (λ (l : List (Option NodeRecord)). node_in l at) S.graph.nodes ∙ here in
    let nodes : (give_box s.graph at state).nodes ≡ set a.world.nodes at.0 (Some (with_kept state.kept node)) =
    ap (λ (o : Option NodeRecord). set s.graph.nodes at.0 (option_map (with_kept state.kept) o)) found ∙ ap (λ (l : List (Option NodeRecord)). set l at.0 (Some (with_kept state.kept node))) S.graph.nodes in
    record {
      items = subst (λ (p : Pending). HoldsItems p a) (sym pending) S.items;
      there = λ p h. node_set a.world.nodes at.0 node (with_kept state.kept node) p here kind (S.there p h);
      graph = subst (λ (g : Topology). IsOfWorld g (record a.world { nodes = set a.world.nodes at.0 (Some (with_kept state.kept node)) })) (sym graph) (record { nodes = nodes; stock = S.graph.stock; next_link = S.graph.next_link });
      homes = subst (λ (g : Topology). length g.home ≡ length g.nodes) (sym graph) (length-set s.graph.home at.0 true ∙ S.homes ∙ sym (length-set s.graph.nodes at.0 (option_map (with_kept state.kept) (node_in s.graph.nodes at))));
      lent = subst (λ (g : Topology). Lent g a.world.pending a.taken) (sym graph) (lent_given s.graph at node state a.world.pending a.taken found S.homes S.lent);
      places = let e = length-set a.world.nodes at.0 (Some (with_kept state.kept node)) in let f = ap (λ (p : Pending). length p.queues.lists) pending in let le = S.places in omega arith;
      told = told ∙ S.told;
      ports = ap (map port_of) ports ∙ S.ports;
    }
