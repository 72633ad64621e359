-- What waits at the nodes of lesser numbers.
use Rattle.std.proofs.Common.{◌≡◌}
use Rattle.std.specs.List.{flat_map}
use Rattle.ng_machine.specs.Run.{RunState}
use Rattle.ng_machine.specs.Words.{below}
use Rattle.ng_machine.specs.World.{node_id}
use Rattle.ng_core_state.specs.Stands.{Stands}
use Rattle.ng_trace.specs.Endings.{spots}
use Rattle.ng_trace.specs.Watch.{waiting_at}
use Rattle.ng_trace.proofs.following.all_waiting.Given as goal

abbrev pub invariant-loop-node : goal.invariant-loop-node
invariant-loop-node g l =
    (a : RunState) → Stands l.state a → l.all.items ≡ spots a.world.nodes (flat_map (λ n. waiting_at a (node_id n)) (below l.node))
