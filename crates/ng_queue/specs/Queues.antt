-- The queues of all nodes by the numbers of the nodes, and the least of the heads that can be taken.
use Rattle.std.specs.Prelude.{◌≡◌, ℕ, ◌≤◌, List, [], get_or, Option, Some, None}
use Rattle.ng_machine.specs.declared.item.Item.{Item}
use Rattle.ng_queue.specs.declared.entry.Entry.{Entry}
use Rattle.ng_queue.specs.declared.entry.Hold.{Hold}
use Rattle.ng_queue.specs.Queue.{Queue, head, hold_of}

-- the entries of each queue, and how many more each has room for
pub record QueueLists : Type 0 where
  pub lists : List (List Entry)
  pub spares : List ℕ

abbrev pub list_of : Queue → List Entry
list_of queue = queue.entries

abbrev pub spare_of : Queue → ℕ
spare_of queue = queue.spare

abbrev pub list_at : List (List Entry) → ℕ → List Entry
list_at lists n = get_or lists n []

abbrev pub spare_at : List ℕ → ℕ → ℕ
spare_at spares n = get_or spares n 0

abbrev pub ready_unless : Option Hold → Option Item → Option ℕ
ready_unless None None = None
ready_unless None (Some item) = Some item.id.0
ready_unless (Some why) first = None

-- the number of the head, where it can be taken
abbrev pub ready_of : List Entry → Option ℕ
ready_of entries = ready_unless (hold_of entries) (head entries)

-- no queue lets its head be taken
abbrev pub NoneReady : List (List Entry) → Type 0
NoneReady lists = (n : ℕ) → ready_of (list_at lists n) ≡ None

-- this queue lets its head be taken, and no other has a lesser one
pub record IsLeast (lists : List (List Entry)) (at : ℕ) : Type 0 where
  pub id : ℕ
  pub is_ready : ready_of (list_at lists at) ≡ Some id
  pub least : (n other : ℕ) → ready_of (list_at lists n) ≡ Some other → id ≤ other
