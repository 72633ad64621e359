-- The states of ether and socket, as their nodes keep them.
use Rattle.std.specs.Prelude.{ℕ, List}
use Rattle.ng_machine.specs.kinds.Ether.{Ether}
use Rattle.ng_machine.specs.State.{State, EtherState, SocketState}

-- an ether: its hooks, and the two numbers that its messages keep
pub record Port : Type 0 where
  pub hooks : List (List ℕ)
  pub settings : Ether

abbrev pub ether_state : Port → State
ether_state p = record { hooks = p.hooks; kept = EtherState p.settings }

-- a socket keeps nothing but its hooks
abbrev pub socket_state : List (List ℕ) → State
socket_state hooks = record { hooks = hooks; kept = SocketState }
