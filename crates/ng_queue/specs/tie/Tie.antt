-- How queues of nodes stand for the one list of pending items: each queue has its node's items, in order, and what is taken
-- is out.
use Rattle.std.specs.Prelude.{◌≡◌, ℕ, ◌+◌, ◌≤◌, Bool, false, not, ◌==◌, if◌then◌else◌, List, [], ◌∷◌, map, filter}
use Rattle.ng_machine.specs.declared.item.Item.{Item}
use Rattle.ng_machine.specs.World.{node_id, item_id}
use Rattle.ng_machine.specs.Body.{is_at}
use Rattle.ng_machine.specs.Laws.{taken_by}
use Rattle.ng_machine.specs.Run.{Taken}
use Rattle.ng_machine.specs.Run.{without as taken_without}
use Rattle.ng_machine.specs.Tests.{is_taken}
use Rattle.ng_queue.specs.declared.entry.Entry.{Entry}
use Rattle.ng_queue.specs.declared.entry.Entry.TheVariants.{Waiting, Out}
use Rattle.ng_queue.specs.Queue.{mark_of}
use Rattle.ng_queue.specs.Queues.{list_at}

-- By the number of an item: whether it is taken, what is taken with it, and what is taken without it

abbrev pub is_out : ℕ → List Taken → Bool
is_out id taken = is_taken taken (item_id id)

abbrev pub taking : ℕ → ℕ → Taken
taking id seat = taken_by (item_id id) seat

abbrev pub untaken : ℕ → List Taken → List Taken
untaken id taken = taken_without taken (item_id id)

-- the items of a node, in order, and those of other nodes
abbrev pub at : ℕ → List Item → List Item
at n items = filter (is_at (node_id n)) items

abbrev pub elsewhere : ℕ → List Item → List Item
elsewhere n items = filter (λ item. not (is_at (node_id n) item)) items

-- the items of other numbers
abbrev pub without : ℕ → List Item → List Item
without id items = filter (λ item. not (item.id.0 == id)) items

-- an item as its queue has it
abbrev pub entry_of : List Taken → Item → Entry
entry_of taken item = if is_out item.id.0 taken then Out (mark_of item) else Waiting item

abbrev pub entries : List Taken → List Item → List Entry
entries taken items = map (entry_of taken) items

-- each node's queue has the pending items of that node, in their order
abbrev pub Tied : List (List Entry) → List Taken → List Item → Type 0
Tied lists taken pending = (n : ℕ) → list_at lists n ≡ entries taken (at n pending)

-- numbers ascend, from low on
abbrev pub IsSorted : ℕ → List Item → Type 0
IsSorted low [] = Unit {0}
IsSorted low (item ∷ items) = (low ≤ item.id.0) × IsSorted (item.id.0 + 1) items

-- no number is taken twice
abbrev pub IsOnce : List Taken → Type 0
IsOnce [] = Unit {0}
IsOnce (t ∷ ts) = (is_out t.id.0 ts ≡ false) × IsOnce ts
