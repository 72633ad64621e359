-- A node that is made at the other end of a new hook.
use Rattle.std.proofs.Common.{◌≡◌, ℕ, ◌+◌, true, List, [], ◌∷◌, ◌++◌, length, Some, None, refl}
use Rattle.ng_base.specs.declared.ids.NodeId.{NodeId}
use Rattle.ng_base.specs.declared.kind.Kind.{Kind}
use Rattle.ng_machine.specs.declared.hook.End.{End}
use Rattle.ng_machine.specs.declared.hook.Hook.{Hook}
use Rattle.ng_machine.specs.State.{State, blank_of, add_hook}
use Rattle.ng_machine.specs.Stock.{without_kind}
use Rattle.ng_machine.specs.World.{node_id, link_id, new_hook, with_hook}
use Rattle.ng_topology.specs.NodeEntry.{NodeEntry, entry_as}
use Rattle.ng_topology.specs.NodePlaces.{NodePlaces}
use Rattle.ng_topology.specs.Topology.{Topology, change_at, sprout_node}

pub is_sprout : (places added pushed : NodePlaces) (stock left : List Kind) (next_link : ℕ) (at : End) (kind : Kind) (hook : List ℕ) (id : NodeId) (ours theirs : Hook) (entry : NodeEntry) (hooks : List Hook) (state : State)
    → id ≡ node_id (length places.nodes)
    → theirs ≡ new_hook hook (link_id next_link) at.node at.hook true
    → ours ≡ new_hook at.hook (link_id next_link) id hook true
    → hooks ≡ theirs ∷ []
    → added ≡ record places { nodes = change_at places.nodes at.node (λ node. with_hook node ours) }
    → state ≡ add_hook (blank_of kind) hook
    → entry ≡ entry_as None state hooks true
    → pushed.nodes ≡ added.nodes ++ Some entry.node ∷ []
    → pushed.home ≡ added.home ++ true ∷ []
    → left ≡ without_kind stock kind
    → (let t : Topology = record { nodes = pushed.nodes; home = pushed.home; stock = left; next_link = next_link + 1 } in t)
    ≡ sprout_node (record { nodes = places.nodes; home = places.home; stock = stock; next_link = next_link }) at kind hook
is_sprout places added pushed stock left next_link at kind hook id ours theirs entry hooks state is_id is_theirs is_ours is_hooks is_added is_state is_entry is_nodes is_home is_left =
    rw (is_nodes, is_home, is_left, is_entry, is_state, is_hooks, is_added, is_theirs, is_ours, is_id) refl
