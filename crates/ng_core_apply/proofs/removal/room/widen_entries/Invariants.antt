-- There is room for what follows of the entries so far, and nothing but room changed.
use Rattle.std.proofs.Common.{◌≡◌, ℕ, ◌+◌, ◌<◌, ◌≤◌, length, take}
use Rattle.ng_machine.specs.Run.{RunState}
use Rattle.ng_queue.specs.Queues.{list_at, spare_at}
use Rattle.ng_core_state.specs.Stands.{Stands}
use Rattle.ng_core_apply.specs.removal.Drops.{undoes_in}
use Rattle.ng_core_apply.proofs.removal.room.widen_entries.Given as goal

abbrev pub invariant-loop-n : goal.invariant-loop-n
invariant-loop-n g l = record {
  stands : (a : RunState) → Stands l.fn.state a → Stands l.state a;
  room : (m : ℕ) → m < length l.fn.state.pending.queues.lists
      → spare_at l.fn.state.pending.queues.spares m + undoes_in (take l.n (list_at l.fn.state.pending.queues.lists l.at)) m ≤ spare_at l.state.pending.queues.spares m;
  lists : l.state.pending.queues.lists ≡ l.fn.state.pending.queues.lists;
  tally : l.state.pending.tally ≡ l.fn.state.pending.tally;
  graph : l.state.graph ≡ l.fn.state.graph;
  told : l.state.told ≡ l.fn.state.told;
}
