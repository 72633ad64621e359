-- A node is changed, whose box is at home.
use Rattle.std.proofs.Common.{◌≡◌, ◌≢◌, ℕ, List, [], ◌∷◌, zero, suc, length, map, set, get_or, true, false, refl, sym, ap, ◌∙◌, subst, ⊎_elim, arith, true≢false, length-set}
use Rattle.std.proofs.lemmas.List.{get_or-set_other, get_or-set_same}
use Rattle.std.proofs.lemmas.Bool.{cases_eq}
use Rattle.std.specs.Option.{option_map}
use Rattle.std.specs.declared.option.Option.{Option}
use Rattle.std.specs.declared.option.Option.TheVariants.{None, Some}
use Rattle.ng_base.specs.declared.ids.NodeId.{NodeId}
use Rattle.ng_machine.specs.declared.item.Item.{Item}
use Rattle.ng_machine.specs.Run.{RunState, Taken}
use Rattle.std.specs.Prelude.{find}
use Rattle.ng_machine.specs.declared.hook.Hook.{Hook}
use Rattle.ng_machine.specs.Words.{times}
use Rattle.ng_machine.specs.World.{NodeRecord, node_in, node_at, kind_at, is_named}
use Rattle.ng_machine.specs.State.{State as NodeState}
use Rattle.ng_machine.proofs.Kept.{node_set}
use Rattle.ng_machine.proofs.NodeLists.{given_number}
use Rattle.ng_queue.specs.declared.pending.pending.Pending.{Pending}
use Rattle.ng_queue.specs.pending.Holds.{HoldsItems, in_world}
use Rattle.ng_topology.specs.OfWorld.{IsOfWorld}
use Rattle.ng_topology.specs.Topology.{Topology, change_node, give_box, is_home}
use Rattle.ng_core_state.specs.declared.state.State.{State}
use Rattle.ng_core_state.specs.Lent.{Lent}
use Rattle.ng_core_state.specs.Room.{goes_to, wants}
use Rattle.ng_core_state.specs.Stands.{Stands, port_of}

lent_changed : (t : Topology) (id : NodeId) (f : NodeRecord → NodeRecord) (pending : List Item) (taken : List Taken) → is_home t id ≡ true → Lent t pending taken → Lent (change_node t id f) pending taken
lent_changed t id f pending taken home L n r is away = ⊎_elim
    (λ (e : n ≡ id.0). absurd (true≢false (sym home ∙ ap (λ (k : ℕ). get_or t.home k false) (sym e) ∙ away)))
    (λ (d : n ≢ id.0). L n r (sym (get_or-set_other t.nodes id.0 n (option_map f (node_in t.nodes id)) None d) ∙ is) away)
    (cases_eq n id.0)

pub stands_changed : {B : Type 0} (s t : State B) (a : RunState) (at : NodeId) (node : NodeRecord) (f : NodeRecord → NodeRecord) → Stands s a → node_at a.world at ≡ Some node → kind_at (f node) ≡ kind_at node → is_home s.graph at ≡ true
    → t.graph ≡ change_node s.graph at f → t.pending ≡ s.pending → t.told.items ≡ s.told.items → t.ports.items ≡ s.ports.items
    → Stands t (in_world a (record a.world { nodes = set a.world.nodes at.0 (Some (f node)) }))
stands_changed s t a at node f S here kind home graph pending told ports =
    let found : node_in s.graph.nodes at ≡ Some node = ap (λ (l : List (Option NodeRecord)). node_in l at) S.graph.nodes ∙ here in
    let nodes : (change_node s.graph at f).nodes ≡ set a.world.nodes at.0 (Some (f node)) =
    ap (λ (o : Option NodeRecord). set s.graph.nodes at.0 (option_map f o)) found ∙ ap (λ (l : List (Option NodeRecord)). set l at.0 (Some (f node))) S.graph.nodes in
    record {
      items = subst (λ (p : Pending). HoldsItems p a) (sym pending) S.items;
      there = λ p h. node_set a.world.nodes at.0 node (f node) p here kind (S.there p h);
      graph = subst (λ (g : Topology). IsOfWorld g (record a.world { nodes = set a.world.nodes at.0 (Some (f node)) })) (sym graph) (record { nodes = nodes; stock = S.graph.stock; next_link = S.graph.next_link });
      homes = subst (λ (g : Topology). length g.home ≡ length g.nodes) (sym graph) (S.homes ∙ sym (length-set s.graph.nodes at.0 (option_map f (node_in s.graph.nodes at))));
      lent = subst (λ (g : Topology). Lent g a.world.pending a.taken) (sym graph) (lent_changed s.graph at f a.world.pending a.taken home S.lent);
      places = let e = length-set a.world.nodes at.0 (Some (f node)) in let f = ap (λ (p : Pending). length p.queues.lists) pending in let le = S.places in omega arith;
      told = told ∙ S.told;
      ports = ap (map port_of) ports ∙ S.ports;
    }

-- the node after it
pub changed_here : (nodes : List (Option NodeRecord)) (n : ℕ) (f : NodeRecord → NodeRecord) → get_or (set nodes n (option_map f (get_or nodes n None))) n None ≡ option_map f (get_or nodes n None)
changed_here [] n f = refl
changed_here (x ∷ nodes) zero f = refl
changed_here (x ∷ nodes) (suc n) f = changed_here nodes n f

-- packets go where they went
pub wants_changed : (nodes : List (Option NodeRecord)) (at : NodeId) (f : NodeRecord → NodeRecord) (sends : List (List ℕ × List ℕ)) (n : ℕ) → ((r : NodeRecord) → (f r).hooks ≡ r.hooks)
    → wants (node_in (set nodes at.0 (option_map f (node_in nodes at))) at) sends n ≡ wants (node_in nodes at) sends n
wants_changed nodes at f sends n keeps = ap (λ (o : Option NodeRecord). wants o sends n) (changed_here nodes at.0 f) ∙ by (node_in nodes at)
  where
    by : (o : Option NodeRecord) → wants (option_map f o) sends n ≡ wants o sends n
    by None = refl
    by (Some r) = ap (λ (hooks : List Hook). times (λ (x : List ℕ × List ℕ). goes_to (find (is_named x.0) hooks) n) sends) (keeps r)

-- a box that came home is at home
pub home_given : {B : Type 0} (s : State B) (a : RunState) (at : NodeId) (node : NodeRecord) (state : NodeState) → Stands s a → node_at a.world at ≡ Some node → is_home (give_box s.graph at state) at ≡ true
home_given s a at node state S here = get_or-set_same s.graph.home at.0 true false
    (let known = given_number a.world.nodes at.0 node here in let nodes = ap (λ (l : List (Option NodeRecord)). length l) S.graph.nodes in let homes = S.homes in omega arith)
