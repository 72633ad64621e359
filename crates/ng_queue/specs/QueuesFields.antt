-- What the fields of the queues of all nodes say.
use Rattle.std.specs.Prelude.{◌≡◌, ℕ, map}
use Rattle.ng_queue.specs.declared.queues.Queues.TheInside.{Inside}
use Rattle.ng_queue.specs.Queue.{IsBelow}
use Rattle.ng_queue.specs.Queues.{QueueLists, list_of, spare_of, list_at, ready_of}
use Rattle.ng_machine.specs.World.{item_id}

abbrev pub queue_lists_of : Inside → QueueLists
queue_lists_of q = record { lists = map list_of q.queues.items; spares = map spare_of q.queues.items }

-- the tree has the number of each head that can be taken, and all numbers are below the one that stands for none
pub record IsConsistent (q : Inside) : Type 0 where
  pub ready : q.ready ≡ map ready_of (map list_of q.queues.items)
  pub below : (n : ℕ) → IsBelow (item_id 18446744073709551615) (list_at (map list_of q.queues.items) n)
