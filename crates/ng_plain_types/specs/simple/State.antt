-- The states of hub, hole, echo and split, as their nodes keep them.
use Rattle.std.specs.Prelude.{ℕ, Bool, List}
use Rattle.ng_machine.specs.State.{State, HubState, HoleState, EchoState, SplitState}

-- a hub: its hooks, and whether it stays without them
pub record Hub : Type 0 where
  pub hooks : List (List ℕ)
  pub persistent : Bool

abbrev pub hub_state : Hub → State
hub_state h = record { hooks = h.hooks; kept = HubState h.persistent }

-- the others keep nothing but their hooks
abbrev pub hole_state : List (List ℕ) → State
hole_state hooks = record { hooks = hooks; kept = HoleState }

abbrev pub echo_state : List (List ℕ) → State
echo_state hooks = record { hooks = hooks; kept = EchoState }

abbrev pub split_state : List (List ℕ) → State
split_state hooks = record { hooks = hooks; kept = SplitState }
