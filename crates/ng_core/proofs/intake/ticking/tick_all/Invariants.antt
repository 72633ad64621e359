-- Items wait for the bridges of the numbers so far.
use Rattle.std.proofs.Common.{◌≡◌, ℕ, ◌+◌, ◌<◌, ◌≤◌, true, take}
use Rattle.ng_machine.specs.Feed.{feed_ticks, is_bridge}
use Rattle.ng_machine.specs.Run.{RunState}
use Rattle.ng_machine.specs.World.{node_id, node_in}
use Rattle.ng_queue.specs.pending.Holds.{in_world}
use Rattle.ng_queue.specs.Queues.{spare_at}
use Rattle.ng_queue.specs.tally.Tally.{HasNumbers}
use Rattle.ng_core_state.specs.Stands.{Stands}
use Rattle.ng_core.proofs.intake.ticking.tick_all.Given as goal

abbrev pub invariant-loop-n : goal.invariant-loop-n
invariant-loop-n g l = record {
  stands : (a : RunState) → Stands l.fn.state a → Stands l.state (in_world a (feed_ticks a.world l.seconds 0 (take l.n a.world.nodes)));
  graph : l.state.graph ≡ l.fn.state.graph;
  room : (k : ℕ) → l.n ≤ k → is_bridge (node_in l.fn.state.graph.nodes (node_id k)) ≡ true → 0 < spare_at l.state.pending.queues.spares k;
  numbers : (k : ℕ) → HasNumbers (k + l.n) l.fn.state.pending.tally → HasNumbers k l.state.pending.tally;
}
