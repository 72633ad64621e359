-- The world as it is kept may go to another thread, if its boxes may.
use denote.Param.Send.{IsSend, sendable}
use denote.RattleType.{RattleType}
use Rattle.ng_base.proofs.Sendable.{name_send}
use Rattle.ng_core_state.specs.contracts.state.Port as Port
use Rattle.ng_core_state.specs.contracts.state.State as State
use Rattle.ng_machine.proofs.Sendable.{told_send}
use Rattle.ng_plan.specs.declared.node.node.Node.{Ghosts}
use Rattle.ng_queue.proofs.Sendable.{pending_send}
use Rattle.ng_topology.proofs.Sendable.{graph_send}
use Rattle.std.proofs.Crossing.{crosses}
use Rattle.std.proofs.MapsCrossing.{crosses as maps}

pub port_send : IsSend Port.the_row
port_send = search (sendable, crosses, maps) depth 90 fits 300000

module _ (R : RattleType) (gs : Ghosts R.Denot) (s : IsSend R) where
  pub state_send : IsSend (State.the_row R gs)
  state_send = search (graph_send, pending_send, told_send, port_send, sendable, crosses, maps) depth 90 fits 300000

  pub state_field_send : IsSend (State.the_field R gs).row
  state_field_send = search (graph_send, told_send, port_send, name_send, sendable, crosses, maps) depth 90 fits 300000
