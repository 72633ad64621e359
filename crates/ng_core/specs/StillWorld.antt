-- What a packet's way through a world goes by, while no node and no hook changes: the nodes by their numbers, and how many ports
-- there are.
use Rattle.std.specs.Prelude.{ℕ, nat_lt, if◌then◌else◌, List, length, Option, Some, None}
use Rattle.ng_base.specs.declared.ids.NodeId.{NodeId}
use Rattle.ng_machine.specs.declared.plan.Plan.{Plan}
use Rattle.ng_machine.specs.State.{way_of}
use Rattle.ng_machine.specs.World.{World, NodeRecord, state_of, port_node}

pub record StillWorld : Type 0 where
  pub nodes : List (Option NodeRecord)
  pub ports : ℕ

abbrev pub still_world : World → StillWorld
still_world w = record { nodes = w.nodes; ports = length w.ports }

-- what a node's rule for packets reads of it, which a one2many has not
abbrev pub way_at : Option NodeRecord → Option Plan
way_at None = None
way_at (Some node) = way_of (state_of node)

-- the node of a port that is there
abbrev pub node_of_port : StillWorld → ℕ → Option NodeId
node_of_port s port = if nat_lt port s.ports then Some (port_node port) else None
