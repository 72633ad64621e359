-- Room for packets that leave by a node, taken before anything changes.
use Rattle.std.specs.Prelude.{◌≡◌, ℕ, ◌+◌, ◌<◌, ◌≤◌, ◌^◌, List, slice_get, vec_len, vec_capacity, Some}
use Rattle.ng_base.specs.declared.ids.NodeId.{NodeId}
use Rattle.ng_machine.specs.World.{port_of}
use Rattle.ng_core_state.specs.declared.state.Port.{Port as KeptPort}
use Rattle.ng_core_state.specs.declared.state.State.{State}

-- so many more packets may leave by the port, or go to its host
pub record TakesPackets (n : ℕ) (port : KeptPort) : Type 0 where
  pub leaving : vec_len port.leaving + n ≤ vec_capacity port.leaving
  pub up : port.up + n < 2 ^ 63

-- the port of that number, where there is one
abbrev pub PortTakes : ℕ → ℕ → List KeptPort → Type 0
PortTakes at n ports = (port : KeptPort) → slice_get ports at ≡ Some port → TakesPackets n port

-- so many packets may leave by the node, whichever way
pub record HasRoomToLeave {B : Type 0} (at : NodeId) (n : ℕ) (s : State B) : Type 0 where
  pub told : vec_len s.told + n ≤ vec_capacity s.told
  pub port : PortTakes (port_of at) n s.ports.items
