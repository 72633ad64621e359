-- The plans of nodes, by the nodes' numbers.
use Rattle.std.specs.Prelude.{◌≡◌, ◌≤◌, List, slice_index_or, Option, None}
use Rattle.ng_base.specs.declared.ids.NodeId.{NodeId}
use Rattle.ng_machine.specs.declared.plan.Plan.{Plan}
use Rattle.ng_machine.specs.LowRun.{most_ports}
use Rattle.ng_machine.specs.World.{NodeRecord, node_in}
use Rattle.ng_core.specs.StillWorld.{StillWorld, way_at}

-- each number has the plan of its node, where that is there and has one
abbrev pub HasPlans : List (Option NodeRecord) → List (Option Plan) → Type 0
HasPlans nodes plans = (id : NodeId) → slice_index_or plans id.0 None ≡ way_at (node_in nodes id)

pub record IsPlanned (s : StillWorld) (plans : List (Option Plan)) : Type 0 where
  pub planned : HasPlans s.nodes plans
  pub few : s.ports ≤ most_ports
