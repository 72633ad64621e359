-- The state of a vlan node, as the node keeps it.
use Rattle.std.specs.Prelude.{ℕ, List}
use Rattle.ng_machine.specs.kinds.Vlan.{Vlan}
use Rattle.ng_machine.specs.State.{State, VlanState}

-- its hooks, and its type of tags with its filters
pub record Tagger : Type 0 where
  pub hooks : List (List ℕ)
  pub kept : Vlan

abbrev pub vlan_state : Tagger → State
vlan_state v = record { hooks = v.hooks; kept = VlanState v.kept }
