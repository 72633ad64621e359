-- The state of a node of the type.
use Rattle.std.specs.Prelude.{ℕ, List}
use Rattle.ng_machine.specs.kinds.Bridge.{Bridge}
use Rattle.ng_machine.specs.State.{State, BridgeState}

-- its hooks, in the order in which they were made, and what a bridge keeps
pub record BridgeParts : Type 0 where
  pub hooks : List (List ℕ)
  pub bridge : Bridge

abbrev pub bridge_state : BridgeParts → State
bridge_state parts = record { hooks = parts.hooks; kept = BridgeState parts.bridge }
