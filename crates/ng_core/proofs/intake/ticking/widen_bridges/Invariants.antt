-- Room at the bridges of the numbers so far.
use Rattle.std.proofs.Common.{◌≡◌, ℕ, ◌<◌, true, length}
use Rattle.ng_machine.specs.Feed.{is_bridge}
use Rattle.ng_machine.specs.Run.{RunState}
use Rattle.ng_machine.specs.World.{node_id, node_in}
use Rattle.ng_queue.specs.Queues.{spare_at}
use Rattle.ng_core_state.specs.Stands.{Stands}
use Rattle.ng_core.proofs.intake.ticking.widen_bridges.Given as goal

abbrev pub invariant-loop-n : goal.invariant-loop-n
invariant-loop-n g l = record {
  stands : (a : RunState) → Stands l.fn.state a → Stands l.state a;
  graph : l.state.graph ≡ l.fn.state.graph;
  lists : l.state.pending.queues.lists ≡ l.fn.state.pending.queues.lists;
  tally : l.state.pending.tally ≡ l.fn.state.pending.tally;
  room : (k : ℕ) → k < l.n → is_bridge (node_in l.fn.state.graph.nodes (node_id k)) ≡ true → k < length l.fn.state.pending.queues.lists
      → 0 < spare_at l.state.pending.queues.spares k;
}
