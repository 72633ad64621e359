-- A graph between its steps: each box is at home.
use Rattle.std.specs.Prelude.{ℕ, ◌+◌, ◌≤◌}
use Rattle.ng_base.specs.declared.ids.NodeId.{NodeId}
use Rattle.ng_topology.specs.Topology.{Topology, IsThere, IsAtHome}

-- each node's box is at home, and no more links than these were made
pub record IsAtRest (t : Topology) (links : ℕ) : Type 0 where
  pub home : (id : NodeId) → IsThere t id → IsAtHome t id
  pub few : t.next_link ≤ links + 1
