-- An index that has the number of each node that has a name under that name, and nothing else. So no two nodes have one name.
use Rattle.std.specs.Prelude.{◌≡◌, ℕ, if◌then◌else◌, List, Option, Some, None}
use Rattle.std.specs.BTreeMap.{BTreeMap, get}
use Rattle.std.specs.Cmp.Lexicographic.{slice_cmp}
use Rattle.std.specs.Ordering.{nat_cmp}
use Rattle.ng_base.specs.declared.ids.NodeId.{NodeId}
use Rattle.ng_base.specs.declared.kind.Kind.{Kind}
use Rattle.ng_machine.specs.World.{NodeRecord, node_in, same_name}
use Rattle.ng_topology.specs.NodePlaces.{NodePlaces, HasRoom}
use Rattle.ng_topology.specs.Topology.{name_of}

-- the number under a name
abbrev pub id_under : BTreeMap (List ℕ) NodeId → List ℕ → Option NodeId
id_under index name = get (slice_cmp nat_cmp) index name

pub record AreIndexed (nodes : List (Option NodeRecord)) (index : BTreeMap (List ℕ) NodeId) : Type 0 where
  pub by_node : (id : NodeId) (name : List ℕ) → name_of (node_in nodes id) ≡ Some name → id_under index name ≡ Some id
  pub by_name : (name : List ℕ) (id : NodeId) → id_under index name ≡ Some id → name_of (node_in nodes id) ≡ Some name

-- the number stands under the name, if there is one; all else is as before
abbrev pub Enters : BTreeMap (List ℕ) NodeId → BTreeMap (List ℕ) NodeId → Option (List ℕ) → NodeId → Type 0
Enters old new name id = (other : List ℕ) → id_under new other ≡ (if same_name other name then Some id else id_under old other)

-- nothing stands under the name any more
abbrev pub Forgets : BTreeMap (List ℕ) NodeId → BTreeMap (List ℕ) NodeId → Option (List ℕ) → Type 0
Forgets old new name = (other : List ℕ) → id_under new other ≡ (if same_name other name then None else id_under old other)

-- what the fields of a graph say
pub record IsConsistent (places : NodePlaces) (stock : List Kind) (index : BTreeMap (List ℕ) NodeId) : Type 0 where
  pub room : HasRoom places stock
  pub names : AreIndexed places.nodes index
