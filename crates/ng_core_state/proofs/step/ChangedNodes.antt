-- What is kept stands for the world in which a node is changed, whose box is at home.
use Rattle.std.proofs.Common.{◌≡◌, ◌≢◌, ℕ, ◌+◌, List, length, map, set, get_or, Bool, true, false, cond, refl, sym, ap, ◌∙◌, subst, ⊎_elim, arith, true≢false, length-set}
use Rattle.std.proofs.lemmas.List.{get_or-set_other}
use Rattle.std.proofs.lemmas.Bool.{cases_eq}
use Rattle.std.specs.Option.{option_map}
use Rattle.std.specs.declared.option.Option.{Option}
use Rattle.std.specs.declared.option.Option.TheVariants.{None, Some}
use Rattle.ng_base.specs.declared.ids.NodeId.{NodeId}
use Rattle.ng_machine.specs.declared.item.Item.{Item}
use Rattle.ng_machine.specs.Run.{RunState, Taken}
use Rattle.ng_machine.specs.World.{NodeRecord, node_in, node_at, kind_at, link_id, new_hook, with_hook}
use Rattle.ng_machine.specs.declared.hook.End.{End}
use Rattle.ng_machine.proofs.Owed.{made_kind}
use Rattle.ng_machine.proofs.Kept.{node_set}
use Rattle.ng_queue.specs.declared.pending.pending.Pending.{Pending}
use Rattle.ng_queue.specs.pending.Holds.{HoldsItems, in_world}
use Rattle.ng_topology.specs.OfWorld.{IsOfWorld}
use Rattle.ng_topology.specs.Topology.{Topology, change_node, is_home, use_link}
use Rattle.ng_core_state.specs.step.Changed.{with_link, with_node}
use Rattle.ng_core_state.specs.declared.state.State.{State}
use Rattle.ng_core_state.specs.Lent.{Lent}
use Rattle.ng_core_state.specs.Stands.{Stands, port_of}

lent_set : (t : Topology) (at : NodeId) (f : NodeRecord → NodeRecord) (pending : List Item) (taken : List Taken) → Lent t pending taken → is_home t at ≡ true → Lent (change_node t at f) pending taken
lent_set t at f pending taken L home n node is away = ⊎_elim
    (λ (e : n ≡ at.0). absurd (true≢false (sym home ∙ ap (λ (k : ℕ). get_or t.home k false) (sym e) ∙ away)))
    (λ (d : n ≢ at.0). L n node (sym (get_or-set_other t.nodes at.0 n (option_map f (node_in t.nodes at)) None d) ∙ is) away)
    (cases_eq n at.0)

pub stands_set : {B : Type 0} (s t : State B) (a : RunState) (at : NodeId) (node : NodeRecord) (f : NodeRecord → NodeRecord) → Stands s a → node_at a.world at ≡ Some node → kind_at (f node) ≡ kind_at node → is_home s.graph at ≡ true
    → t.graph ≡ change_node s.graph at f → t.pending ≡ s.pending → t.told.items ≡ s.told.items → t.ports.items ≡ s.ports.items
    → Stands t (in_world a (with_node a.world at (f node)))
stands_set s t a at node f S here kind home graph pending told ports =
    let found : node_in s.graph.nodes at ≡ Some node = ap (λ (l : List (Option NodeRecord)). node_in l at) S.graph.nodes ∙ here in
    let nodes : (change_node s.graph at f).nodes ≡ set a.world.nodes at.0 (Some (f node)) =
    ap (λ (o : Option NodeRecord). set s.graph.nodes at.0 (option_map f o)) found ∙ ap (λ (l : List (Option NodeRecord)). set l at.0 (Some (f node))) S.graph.nodes in
    record {
      items = subst (λ (p : Pending). HoldsItems p a) (sym pending) S.items;
      there = λ p h. node_set a.world.nodes at.0 node (f node) p here kind (S.there p h);
      graph = subst (λ (g : Topology). IsOfWorld g (with_node a.world at (f node))) (sym graph) (record { nodes = nodes; stock = S.graph.stock; next_link = S.graph.next_link });
      homes = subst (λ (g : Topology). length g.home ≡ length g.nodes) (sym graph) (S.homes ∙ sym (length-set s.graph.nodes at.0 (option_map f (node_in s.graph.nodes at))));
      lent = subst (λ (g : Topology). Lent g a.world.pending a.taken) (sym graph) (lent_set s.graph at f a.world.pending a.taken S.lent home);
      places = let e = length-set a.world.nodes at.0 (Some (f node)) in let q = ap (λ (p : Pending). length p.queues.lists) pending in let le = S.places in omega arith;
      told = told ∙ S.told;
      ports = ap (map port_of) ports ∙ S.ports;
    }

-- the number of a link is used
pub stands_link : {B : Type 0} (s t : State B) (a : RunState) → Stands s a → t.graph ≡ use_link s.graph → t.pending ≡ s.pending → t.told.items ≡ s.told.items → t.ports.items ≡ s.ports.items → Stands t (in_world a (with_link a.world))
stands_link s t a S graph pending told ports = record {
  items = subst (λ (p : Pending). HoldsItems p a) (sym pending) S.items;
  there = S.there;
  graph = subst (λ (g : Topology). IsOfWorld g (with_link a.world)) (sym graph) (record { nodes = S.graph.nodes; stock = S.graph.stock; next_link = ap (λ (n : ℕ). n + 1) S.graph.next_link });
  homes = subst (λ (g : Topology). length g.home ≡ length g.nodes) (sym graph) S.homes;
  lent = subst (λ (g : Topology). Lent g a.world.pending a.taken) (sym graph) S.lent;
  places = let q = ap (λ (p : Pending). length p.queues.lists) pending in let le = S.places in omega arith;
  told = told ∙ S.told;
  ports = ap (map port_of) ports ∙ S.ports;
}

-- nothing is changed
pub stands_same : {B : Type 0} (s t : State B) (a : RunState) → Stands s a → t.graph ≡ s.graph → t.pending ≡ s.pending → t.told.items ≡ s.told.items → t.ports.items ≡ s.ports.items → Stands t a
stands_same s t a S graph pending told ports = record {
  items = subst (λ (p : Pending). HoldsItems p a) (sym pending) S.items;
  there = S.there;
  graph = subst (λ (g : Topology). IsOfWorld g a.world) (sym graph) S.graph;
  homes = subst (λ (g : Topology). length g.home ≡ length g.nodes) (sym graph) S.homes;
  lent = subst (λ (g : Topology). Lent g a.world.pending a.taken) (sym graph) S.lent;
  places = let q = ap (λ (p : Pending). length p.queues.lists) pending in let le = S.places in omega arith;
  told = told ∙ S.told;
  ports = ap (map port_of) ports ∙ S.ports;
}

-- the node is changed where the test says so
pub stands_if : {B : Type 0} (s t : State B) (a : RunState) (at : NodeId) (node : NodeRecord) (f : NodeRecord → NodeRecord) (b : Bool) → Stands s a → node_at a.world at ≡ Some node → kind_at (f node) ≡ kind_at node → is_home s.graph at ≡ true
    → t.graph ≡ cond b (change_node s.graph at f) s.graph → t.pending ≡ s.pending → t.told.items ≡ s.told.items → t.ports.items ≡ s.ports.items
    → Stands t (in_world a (cond b (with_node a.world at (f node)) a.world))
stands_if s t a at node f true S here kind home graph pending told ports = stands_set s t a at node f S here kind home graph pending told ports
stands_if s t a at node f false S here kind home graph pending told ports = stands_same s t a S graph pending told ports

-- a hook with a fresh link is added
pub stands_half : {B : Type 0} (s t : State B) (a : RunState) (at to : End) (node : NodeRecord) → Stands s a → node_at a.world at.node ≡ Some node → is_home s.graph at.node ≡ true
    → t.graph ≡ use_link (change_node s.graph at.node (λ n. with_hook n (new_hook at.hook (link_id s.graph.next_link) to.node to.hook false))) → t.pending ≡ s.pending → t.told.items ≡ s.told.items → t.ports.items ≡ s.ports.items
    → Stands t (in_world a (with_link (with_node a.world at.node (with_hook node (new_hook at.hook (link_id a.world.next_link) to.node to.hook false)))))
stands_half {B} s t a at to node S here home graph pending told ports =
    let f : NodeRecord → NodeRecord = λ n. with_hook n (new_hook at.hook (link_id a.world.next_link) to.node to.hook false) in
    let mid : State B = record s { graph = change_node s.graph at.node (λ n. with_hook n (new_hook at.hook (link_id a.world.next_link) to.node to.hook false)) } in
    stands_link mid t (in_world a (with_node a.world at.node (f node)))
    (stands_set s mid a at.node node f S here (made_kind node.kept at.hook) home refl refl refl refl)
    (graph ∙ ap (λ (k : ℕ). use_link (change_node s.graph at.node (λ n. with_hook n (new_hook at.hook (link_id k) to.node to.hook false)))) S.graph.next_link)
    pending told ports
