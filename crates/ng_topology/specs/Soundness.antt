-- Every call leaves it so that a box at home has a node.
use Rattle.ng_base.specs.declared.ids.NodeId.{NodeId}
use Rattle.ng_base.specs.declared.kind.Kind.{Kind}
use Rattle.ng_machine.specs.State.{State}
use Rattle.ng_machine.specs.World.{NodeRecord}
use Rattle.ng_topology.specs.Topology.{Topology, IsSound, IsThere, change_node, make_node, retire_node, use_link, lend_box, give_box}

pub record SoundnessStays : Type 0 where
  pub change : (t : Topology) (id : NodeId) (f : NodeRecord → NodeRecord) → IsSound t → IsSound (change_node t id f)
  pub make : (t : Topology) (kind : Kind) (node : NodeRecord) → IsSound t → IsSound (make_node t kind node)
  pub retire : (t : Topology) (id : NodeId) → IsSound t → IsSound (retire_node t id)
  pub link : (t : Topology) → IsSound t → IsSound (use_link t)
  pub lend : (t : Topology) (id : NodeId) → IsSound t → IsSound (lend_box t id)
  pub give : (t : Topology) (id : NodeId) (state : State) → IsThere t id → IsSound t → IsSound (give_box t id state)
