-- What each call of the queues does to the tie, and that the head that a queue lets be taken is what the machine takes.
use Rattle.std.specs.Prelude.{◌≡◌, ℕ, ◌<◌, ◌+◌, Bool, true, false, List, [], ◌∷◌, ◌++◌, length, slice_set, map, filter, Some}
use Rattle.ng_machine.specs.declared.item.Item.{Item}
use Rattle.ng_machine.specs.Words.{Has, times}
use Rattle.ng_machine.specs.Run.{RunState, Taken}
use Rattle.ng_machine.specs.Orderly.{MayTake}
use Rattle.ng_queue.specs.declared.entry.Entry.{Entry}
use Rattle.ng_queue.specs.declared.entry.Entry.TheVariants.{Waiting}
use Rattle.ng_queue.specs.Queue.{head, take_out, put_back, is_other}
use Rattle.ng_queue.specs.Queues.{IsLeast, NoneReady, list_at}
use Rattle.ng_machine.specs.story.Story.{IsNext}
use Rattle.ng_queue.specs.tie.Tie.{is_out, taking, untaken, elsewhere, without, Tied, IsSorted}

-- the queues stand for the pending items, and the item is pending, of a node that has a queue
pub record TiedItem (lists : List (List Entry)) (taken : List Taken) (pending : List Item) (item : Item) : Type 0 where
  pub tied : Tied lists taken pending
  pub sorted : IsSorted 0 pending
  pub known : item.to.0 < length lists
  pub is_pending : Has item pending

-- push
abbrev pub PushTies : Type 0
PushTies =
    (lists : List (List Entry)) (taken : List Taken) (pending : List Item) (item : Item) → Tied lists taken pending → item.to.0 < length lists → is_out item.id.0 taken ≡ false
    → Tied (slice_set lists item.to.0 (list_at lists item.to.0 ++ Waiting item ∷ [])) taken (pending ++ item ∷ [])

-- take, back and done
abbrev pub TakeTies : Type 0
TakeTies =
    (lists : List (List Entry)) (taken : List Taken) (pending : List Item) (item : Item) (seat : ℕ) → TiedItem lists taken pending item
    → Tied (slice_set lists item.to.0 (map (take_out item.id) (list_at lists item.to.0))) (taken ++ taking item.id.0 seat ∷ []) pending

abbrev pub BackTies : Type 0
BackTies =
    (lists : List (List Entry)) (taken : List Taken) (pending : List Item) (item : Item) → TiedItem lists taken pending item
    → Tied (slice_set lists item.to.0 (map (put_back item) (list_at lists item.to.0))) (untaken item.id.0 taken) pending

abbrev pub DoneTies : Type 0
DoneTies =
    (lists : List (List Entry)) (taken : List Taken) (pending : List Item) (item : Item) → TiedItem lists taken pending item
    → Tied (slice_set lists item.to.0 (filter (is_other item.id) (list_at lists item.to.0))) (untaken item.id.0 taken) (without item.id.0 pending)

-- purge
abbrev pub PurgeTies : Type 0
PurgeTies =
    (lists : List (List Entry)) (taken : List Taken) (pending : List Item) (n : ℕ) → Tied lists taken pending → n < length lists
    → Tied (slice_set lists n []) taken (elsewhere n pending)

-- the least head that can be taken is the least item that may be taken; and where no head can be, no item may
abbrev pub LeastIsNext : Type 0
LeastIsNext =
    (lists : List (List Entry)) (a : RunState) → Tied lists a.taken a.world.pending → IsSorted 0 a.world.pending
    → ((n : ℕ) (item : Item) → IsLeast lists n → head (list_at lists n) ≡ Some item → IsNext a item × (item.to.0 ≡ n))
    × (NoneReady lists → (item : Item) → MayTake a item → ⊥)

-- counts of the pending items without one of them
abbrev pub one : Bool → ℕ
one true = 1
one false = 0

abbrev pub CountsLeave : Type 0
CountsLeave = (test : Item → Bool) (items : List Item) (item : Item) → IsSorted 0 items → Has item items → times test (without item.id.0 items) + one (test item) ≡ times test items
