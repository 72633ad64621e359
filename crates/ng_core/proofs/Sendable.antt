-- A core may go to another thread, if its boxes may.
use denote.Param.Send.{IsSend, sendable}
use denote.RattleType.{RattleType}
use Rattle.ng_core_state.proofs.Sendable.{state_field_send}
use Rattle.ng_core_state.specs.contracts.state.State as State
use Rattle.ng_machine.proofs.Sendable.{input_field_send}
use Rattle.ng_machine.specs.contracts.input.Input as Input
use Rattle.ng_plan.specs.declared.node.node.Node.{Ghosts}
use Rattle.ng_core.specs.contracts.machine.Core as Core
use Rattle.std.proofs.Crossing.{crosses}
use Rattle.std.proofs.MapsCrossing.{crosses as maps}

module _ (R : RattleType) (gs : Ghosts R.Denot) (s : IsSend R) where
  pub core_send : IsSend (Core.the_row R gs)
  core_send =
      let a : IsSend (State.the_field R gs).row = state_field_send R gs s in
      let b : IsSend (Input.the_field).row = input_field_send in search (sendable, crosses, maps) depth 40 fits 20000
