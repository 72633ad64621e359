-- The state of a node of any type.
use Rattle.ng_machine.specs.State.{State}
use Rattle.ng_plain_types.specs.simple.State.{hub_state, hole_state, echo_state, split_state}
use Rattle.ng_plain_types.specs.tee.State.{tee_state}
use Rattle.ng_switch_types.specs.one2many.Node.{one2many_state}
use Rattle.ng_switch_types.specs.bridge.Node.{bridge_state}
use Rattle.ng_switch_types.specs.vlan.State.{vlan_state}
use Rattle.ng_filter_types.specs.patch.State.{patch_state}
use Rattle.ng_filter_types.specs.bpf.State.{bpf_state}
use Rattle.ng_plain_types.specs.edge.State.{ether_state, socket_state}
use Rattle.ng_filter_types.specs.State.{etf_state, macset_state}
use Rattle.ng_stock.specs.declared.any_node.TypedNode.{TypedNode}
use Rattle.ng_stock.specs.declared.any_node.TypedNode.TheVariants.{Hub, Hole, Echo, Tee, Split, One2many, Bridge, Vlan, Patch, Bpf, Ether, Socket, Etf, Macset}

-- that of the node inside
abbrev pub any_state : TypedNode → State
any_state (Hub node) = hub_state node
any_state (Hole node) = hole_state node
any_state (Echo node) = echo_state node
any_state (Tee node) = tee_state node
any_state (Split node) = split_state node
any_state (One2many node) = one2many_state node
any_state (Bridge node) = bridge_state node
any_state (Vlan node) = vlan_state node
any_state (Patch node) = patch_state node
any_state (Bpf node) = bpf_state node
any_state (Ether node) = ether_state node
any_state (Socket node) = socket_state node
any_state (Etf node) = etf_state node
any_state (Macset node) = macset_state node
