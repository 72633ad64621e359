-- What the fields of a queue say.
use Rattle.std.specs.Prelude.{◌≡◌, ◌+◌, ◌≤◌, [], drop}
use Rattle.std.specs.Vec.{vec_len, vec_capacity}
use Rattle.std.specs.VecDeque.{deque_len, deque_capacity}
use Rattle.ng_queue.specs.declared.queue.NodeQueue.TheInside.{Inside}
use Rattle.ng_queue.specs.Queue.{Queue, Ascends, AllWait}

abbrev pub queue_of : Inside → Queue
queue_of q = record { entries = q.entries.items; spare = q.spare }

-- Numbers ascend. All from `reach` on waits, so no scan goes past it. There is room for what may be pushed, and a second
-- vector has room for all, so that a purge takes no memory; and for each item that may be pushed there is a place.
pub record IsConsistent (q : Inside) : Type 0 where
  pub ascends : Ascends 0 q.entries.items
  pub reach : q.reach ≤ deque_len q.entries
  pub waits : AllWait (drop q.reach q.entries.items)
  pub room : deque_len q.entries + q.spare ≤ deque_capacity q.entries
  pub purge_empty : q.purged.items ≡ []
  pub purge_room : deque_len q.entries + q.spare ≤ vec_capacity q.purged
  pub slots : q.spare ≤ vec_len q.slots
