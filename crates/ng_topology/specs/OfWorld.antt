-- A graph that is the machine's world, as far as it goes: its nodes, its blank nodes and the number of its next link. Each call
-- leaves it so, beside the change that the call makes.
use Rattle.std.specs.Prelude.{◌≡◌, ℕ, List, Some}
use Rattle.ng_base.specs.declared.ids.NodeId.{NodeId}
use Rattle.ng_base.specs.declared.ids.Stamp.{Stamp}
use Rattle.ng_base.specs.declared.kind.Kind.{Kind}
use Rattle.ng_machine.specs.declared.item.Item.{Item}
use Rattle.ng_machine.specs.State.{State}
use Rattle.ng_machine.specs.World.{World, NodeRecord, node_at}
use Rattle.ng_machine.specs.Change.{Sets, Makes, Retires, Notes, Links, change, change_all}
use Rattle.ng_machine.specs.Generic.{makes as mkpeer_changes}
use Rattle.ng_topology.specs.Topology.{Topology, change_node, make_node, retire_node, use_link, lend_box, give_box, sprout_node}

pub record IsOfWorld (t : Topology) (w : World) : Type 0 where
  pub nodes : t.nodes ≡ w.nodes
  pub stock : t.stock ≡ w.stock
  pub next_link : t.next_link ≡ w.next_link

-- a node is changed: add_half, join, settle, leave, rebind, rename
abbrev pub SetsAre : Type 0
SetsAre = (t : Topology) (w : World) (at : NodeId) (stamp : Stamp) (node : NodeRecord) (f : NodeRecord → NodeRecord) → IsOfWorld t w → node_at w at ≡ Some node → IsOfWorld (change_node t at f) (change at stamp w (Sets (f node)))

-- make
abbrev pub MakesAre : Type 0
MakesAre = (t : Topology) (w : World) (at : NodeId) (stamp : Stamp) (kind : Kind) (node : NodeRecord) → IsOfWorld t w → IsOfWorld (make_node t kind node) (change at stamp w (Makes kind node))

-- retire
abbrev pub RetiresAre : Type 0
RetiresAre = (t : Topology) (w : World) (at : NodeId) (stamp : Stamp) → IsOfWorld t w → IsOfWorld (retire_node t at) (change at stamp w Retires)

-- fresh_link
abbrev pub LinksAre : Type 0
LinksAre = (t : Topology) (w : World) (at : NodeId) (stamp : Stamp) → IsOfWorld t w → IsOfWorld (use_link t) (change at stamp w (Notes Links))

-- lend changes nothing of it, and give sets what the box keeps then
abbrev pub LendsAre : Type 0
LendsAre = (t : Topology) (w : World) (at : NodeId) → IsOfWorld t w → IsOfWorld (lend_box t at) w

abbrev pub GivesAre : Type 0
GivesAre = (t : Topology) (w : World) (at : NodeId) (stamp : Stamp) (node : NodeRecord) (state : State) → IsOfWorld t w → node_at w at ≡ Some node
    → IsOfWorld (give_box t at state) (change at stamp w (Sets (record node { kept = state.kept })))

-- sprout: the changes of the order to make a node at a hook
abbrev pub SproutsAre : Type 0
SproutsAre = (t : Topology) (w : World) (item : Item) (node : NodeRecord) (kind : Kind) (ours theirs : List ℕ) → IsOfWorld t w → node_at w item.to ≡ Some node
    → IsOfWorld (sprout_node t (record { node = item.to; hook = ours }) kind theirs) (change_all item.to item.stamp w (mkpeer_changes w item node kind ours theirs))
