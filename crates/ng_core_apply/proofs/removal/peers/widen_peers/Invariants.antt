-- There is room at the peers of the hooks so far, and nothing but room changed.
use Rattle.std.proofs.Common.{◌≡◌, ℕ, ◌+◌, ◌<◌, ◌≤◌, length, take}
use Rattle.ng_machine.specs.Run.{RunState}
use Rattle.ng_queue.specs.Queues.{spare_at}
use Rattle.ng_core_state.specs.Stands.{Stands}
use Rattle.ng_core_apply.specs.removal.Drops.{peers}
use Rattle.ng_core_apply.proofs.removal.peers.widen_peers.Given as goal

abbrev pub invariant-loop-hook : goal.invariant-loop-hook
invariant-loop-hook g l = record {
  stands : (a : RunState) → Stands l.fn.state a → Stands l.state a;
  room : (m : ℕ) → m < length l.fn.state.pending.queues.lists
      → spare_at l.fn.state.pending.queues.spares m + peers (take l.hook-index l.hooks) m ≤ spare_at l.state.pending.queues.spares m;
  lists : l.state.pending.queues.lists ≡ l.fn.state.pending.queues.lists;
  tally : l.state.pending.tally ≡ l.fn.state.pending.tally;
  graph : l.state.graph ≡ l.fn.state.graph;
  told : l.state.told ≡ l.fn.state.told;
}
