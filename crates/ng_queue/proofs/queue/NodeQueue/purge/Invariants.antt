use Rattle.std.proofs.Common.{◌≡◌, ◌+◌, ◌≤◌, ◌++◌}
use Rattle.std.specs.Vec.{vec_len, vec_capacity}
use Rattle.std.specs.VecDeque.{deque_len}
use Rattle.ng_queue.specs.Queue.{waiting_items}
use Rattle.ng_queue.proofs.queue.NodeQueue.purge.Given as goal

abbrev pub invariant-loop-entry : goal.invariant-loop-entry
invariant-loop-entry l = record {
  items : l.self-inside.purged.items ++ waiting_items l.self-inside.entries.items ≡ waiting_items l.fn.self.entries;
  room : deque_len l.self-inside.entries + vec_len l.self-inside.purged ≤ vec_capacity l.self-inside.purged;
}

abbrev pub decreases-loop-entry : goal.decreases-loop-entry
decreases-loop-entry l = deque_len l.self-inside.entries
