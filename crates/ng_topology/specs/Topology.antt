-- The graph as data, and what its calls do to it: nodes, hooks and links as netgraph(4) has them.
use Rattle.std.specs.Prelude.{◌≡◌, ℕ, ◌+◌, Bool, true, false, if◌then◌else◌, List, [], ◌∷◌, ◌++◌, length, slice_index_or, slice_set, is_some, IsSome, Option, Some, None}
use Rattle.std.specs.Option.{option_map}
use Rattle.ng_base.specs.declared.ids.LinkId.{LinkId}
use Rattle.ng_base.specs.declared.ids.NodeId.{NodeId}
use Rattle.ng_base.specs.declared.kind.Kind.{Kind}
use Rattle.ng_machine.specs.declared.hook.End.{End}
use Rattle.ng_machine.specs.declared.hook.Hook.{Hook}
use Rattle.ng_machine.specs.State.{State, KindState, kind_of}
use Rattle.ng_machine.specs.Stock.{without_kind}
use Rattle.ng_path.specs.Address.{Address}
use Rattle.ng_path.specs.declared.path.Head.{Head}
use Rattle.ng_machine.specs.World.{World, start_of, NodeRecord, node_in, kind_at, state_of, node_id, link_id, find_named, linked_hook, new_hook, blank_node, with_hook}
use Rattle.ng_topology.specs.NodeEntry.{NodeEntry, AcceptsHook}

-- the nodes, the blank nodes that are left and the number of the next link are those of the machine's world; beside them
-- stands of which nodes the boxes are at home
pub record Topology : Type 0 where
  pub nodes : List (Option NodeRecord)
  pub home : List Bool
  pub stock : List Kind
  pub next_link : ℕ

abbrev pub node_of : Option NodeEntry → Option NodeRecord
node_of entry = option_map (λ h. h.node) entry

abbrev pub home_of : Option NodeEntry → Bool
home_of None = false
home_of (Some entry) = entry.home

-- before any node: the number 0 is nobody's
abbrev pub empty_graph : List Kind → Topology
empty_graph stock = record { nodes = None ∷ []; home = false ∷ []; stock = stock; next_link = 1 }

-- What the calls ask

abbrev pub IsThere : Topology → NodeId → Type 0
IsThere t id = IsSome (node_in t.nodes id)

abbrev pub is_home : Topology → NodeId → Bool
is_home t id = slice_index_or t.home id.0 false

-- the node's box is at home
abbrev pub IsAtHome : Topology → NodeId → Type 0
IsAtHome t id = is_home t id ≡ true

-- what is so of every graph: of each number it is known whether a box is at home, and a box at home has a node
pub record IsSound (t : Topology) : Type 0 where
  pub homes : length t.home ≡ length t.nodes
  pub there : (id : NodeId) → IsAtHome t id → IsThere t id

-- the end's node may get the end's hook
abbrev pub MayGetHook : Topology → End → Type 0
MayGetHook t at = (node : NodeRecord) → node_in t.nodes at.node ≡ Some node → AcceptsHook node at.hook

-- a box of this state may come home to the node: it is of the node's kind and has its hooks
pub record FitsNode (node : NodeRecord) (state : State) : Type 0 where
  pub kind : kind_of state ≡ kind_at node
  pub hooks : state.hooks ≡ (state_of node).hooks

abbrev pub FitsNodeAt : Topology → NodeId → State → Type 0
FitsNodeAt t id state = (node : NodeRecord) → node_in t.nodes id ≡ Some node → FitsNode node state

-- no node has the name
abbrev pub is_free : Topology → Option (List ℕ) → Bool
is_free t None = true
is_free t (Some name) = if is_some (find_named 0 name t.nodes) then false else true

abbrev pub name_of : Option NodeRecord → Option (List ℕ)
name_of None = None
name_of (Some node) = node.name

-- What the calls do

-- the node is changed, if it is there
abbrev pub change_at : List (Option NodeRecord) → NodeId → (NodeRecord → NodeRecord) → List (Option NodeRecord)
change_at nodes id f = slice_set nodes id.0 (option_map f (node_in nodes id))

-- the node keeps this beside its hooks
abbrev pub with_kept : KindState → NodeRecord → NodeRecord
with_kept kept node = record node { kept = kept }

abbrev pub change_node : Topology → NodeId → (NodeRecord → NodeRecord) → Topology
change_node t id f = record t { nodes = change_at t.nodes id f }

-- one more node, out of a blank one of the kind
abbrev pub make_node : Topology → Kind → NodeRecord → Topology
make_node t kind node = record t { nodes = t.nodes ++ Some node ∷ []; home = t.home ++ true ∷ []; stock = without_kind t.stock kind }

-- the node is no more
abbrev pub retire_node : Topology → NodeId → Topology
retire_node t id = record t { nodes = slice_set t.nodes id.0 None; home = slice_set t.home id.0 false }

-- the number of a link is used
abbrev pub use_link : Topology → Topology
use_link t = record t { next_link = t.next_link + 1 }

-- the box goes, or comes home, and what it keeps then is what the node keeps
abbrev pub lend_box : Topology → NodeId → Topology
lend_box t id = record t { home = slice_set t.home id.0 false }

abbrev pub give_box : Topology → NodeId → State → Topology
give_box t id state = record (change_node t id (with_kept state.kept)) { home = slice_set t.home id.0 true }

-- a node at the other end of a new hook, both hooks joined by a fresh link
abbrev pub sprout_node : Topology → End → Kind → List ℕ → Topology
sprout_node t at kind hook =
    use_link (make_node (change_node t at.node (λ node. with_hook node (new_hook at.hook (link_id t.next_link) (node_id (length t.nodes)) hook true)))
    kind (with_hook (blank_node None kind) (new_hook hook (link_id t.next_link) at.node at.hook true)))

-- the end's hook has this link
abbrev pub linked_hook_at : Option NodeRecord → List ℕ → LinkId → Option Hook
linked_hook_at None hook link = None
linked_hook_at (Some node) hook link = linked_hook node hook link

abbrev pub is_end : Topology → End → LinkId → Bool
is_end t at link = is_some (linked_hook_at (node_in t.nodes at.node) at.hook link)

-- a world that has these nodes and nothing else, to walk in
abbrev pub world_of : List (Option NodeRecord) → World
world_of nodes = record (start_of [] [] []) { nodes = nodes }

abbrev pub address_of : Head → List (List ℕ) → Address
address_of head hooks = record { head = head; hooks = hooks }
