use Rattle.std.proofs.Common.{◌≡◌, Some}
use Rattle.ng_machine.specs.Walk.{follow, walk}
use Rattle.ng_topology.specs.Topology.{world_of, address_of}
use Rattle.ng_topology.proofs.graph.Graph.follow.Given as goal

abbrev pub invariant-loop-hook : goal.invariant-loop-hook
invariant-loop-hook g l = follow (world_of l.self.nodes) (Some l.id) l.hook-iterator ≡ walk (world_of l.self.nodes) l.fn.from (address_of l.path.head l.path.hooks)
