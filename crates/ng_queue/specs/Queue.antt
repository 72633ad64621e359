-- A node's queue as data: entries in order of their numbers. An item that was taken and is not applied yet is out. Which
-- item may be taken is said of the first that waits alone. netgraph(4): readers and writers of a node; that items of one lane
-- are not worked on beside each other is this project's choice.
use Rattle.std.specs.Prelude.{◌≡◌, ℕ, ◌+◌, ◌<◌, ◌≤◌, Bool, true, false, not, ◌==◌, cond, if◌then◌else◌, List, [], ◌∷◌, zero, suc, Option, Some, None}
use Rattle.ng_base.specs.declared.ids.ItemId.{ItemId}
use Rattle.ng_machine.specs.declared.body.Lane.{Lane}
use Rattle.ng_machine.specs.declared.item.Item.{Item}
use Rattle.ng_machine.specs.Body.{lane_of, share_lane, has_id}
use Rattle.ng_queue.specs.declared.entry.Mark.{Mark}
use Rattle.ng_queue.specs.declared.entry.Entry.{Entry}
use Rattle.ng_queue.specs.declared.entry.Entry.TheVariants.{Waiting, Out}
use Rattle.ng_queue.specs.declared.entry.Hold.{Hold}
use Rattle.ng_queue.specs.declared.entry.Hold.TheVariants.{Empty, WriterIn, ReadersIn, SameHook}

-- the entries, and how many more items can be pushed without memory
pub record Queue : Type 0 where
  pub entries : List Entry
  pub spare : ℕ

abbrev pub empty_queue : Queue
empty_queue = record { entries = []; spare = 0 }

abbrev pub id_of : Entry → ItemId
id_of (Waiting item) = item.id
id_of (Out mark) = mark.id

-- what is kept of an item that is out
abbrev pub mark_of : Item → Mark
mark_of item = record { id = item.id; writer = item.writer; lane = lane_of item.body }

-- the items that wait, in order
abbrev pub waiting_items : List Entry → List Item
waiting_items [] = []
waiting_items (Waiting item ∷ entries) = item ∷ waiting_items entries
waiting_items (Out mark ∷ entries) = waiting_items entries

-- the first that waits
abbrev pub head : List Entry → Option Item
head [] = None
head (Waiting item ∷ entries) = Some item
head (Out mark ∷ entries) = head entries

-- how many are out
abbrev pub out_count : List Entry → ℕ
out_count [] = 0
out_count (Waiting item ∷ entries) = out_count entries
out_count (Out mark ∷ entries) = suc (out_count entries)

-- the first writer that is out
abbrev pub writer_out : List Entry → Option ItemId
writer_out [] = None
writer_out (Waiting item ∷ entries) = writer_out entries
writer_out (Out mark ∷ entries) = if mark.writer then Some mark.id else writer_out entries

-- the first of a lane that is out
abbrev pub lane_out : Option Lane → List Entry → Option ItemId
lane_out lane [] = None
lane_out lane (Waiting item ∷ entries) = lane_out lane entries
lane_out lane (Out mark ∷ entries) = if share_lane mark.lane lane then Some mark.id else lane_out lane entries

-- Why the head can't be taken: the first refusal that holds

abbrev pub readers_in : ℕ → Option Hold
readers_in zero = None
readers_in (suc n) = Some (ReadersIn (suc n))

abbrev pub same_hook : Option ItemId → Option Hold
same_hook None = None
same_hook (Some id) = Some (SameHook id)

abbrev pub hold_beside : Bool → Option Lane → List Entry → Option Hold
hold_beside true lane entries = readers_in (out_count entries)
hold_beside false lane entries = same_hook (lane_out lane entries)

abbrev pub hold_unless : Option ItemId → Bool → Option Lane → List Entry → Option Hold
hold_unless None writer lane entries = hold_beside writer lane entries
hold_unless (Some id) writer lane entries = Some (WriterIn id)

abbrev pub hold_from : Option Item → List Entry → Option Hold
hold_from None entries = Some Empty
hold_from (Some item) entries = hold_unless (writer_out entries) item.writer (lane_of item.body) entries

abbrev pub hold_of : List Entry → Option Hold
hold_of entries = hold_from (head entries) entries

-- What the calls do to each entry

-- the item of this number goes out
abbrev pub take_out : ItemId → Entry → Entry
take_out id (Waiting item) = if has_id id item then Out (mark_of item) else Waiting item
take_out id (Out mark) = Out mark

-- in place of the mark of this item stands the item again
abbrev pub put_back : Item → Entry → Entry
put_back item (Waiting other) = Waiting other
put_back item (Out mark) = if mark.id.0 == item.id.0 then Waiting item else Out mark

abbrev pub is_other : ItemId → Entry → Bool
is_other id entry = not ((id_of entry).0 == id.0)

-- What the calls ask

-- this mark stands in the queue, the first of its number
abbrev pub IsOutAs : Mark → List Entry → Type 0
IsOutAs mark [] = ⊥
IsOutAs mark (Waiting item ∷ entries) = IsOutAs mark entries
IsOutAs mark (Out other ∷ entries) = cond (other.id.0 == mark.id.0) (other ≡ mark) (IsOutAs mark entries)

-- the item of this number is out
abbrev pub IsOut : ItemId → List Entry → Type 0
IsOut id [] = ⊥
IsOut id (Waiting item ∷ entries) = IsOut id entries
IsOut id (Out mark ∷ entries) = cond (mark.id.0 == id.0) (Unit {0}) (IsOut id entries)

-- nothing is out
abbrev pub AllWait : List Entry → Type 0
AllWait [] = Unit {0}
AllWait (Waiting item ∷ entries) = AllWait entries
AllWait (Out mark ∷ entries) = ⊥

-- all numbers are below this one
abbrev pub IsBelow : ItemId → List Entry → Type 0
IsBelow id [] = Unit {0}
IsBelow id (entry ∷ entries) = ((id_of entry).0 < id.0) × IsBelow id entries

-- the numbers ascend, from low on
abbrev pub Ascends : ℕ → List Entry → Type 0
Ascends low [] = Unit {0}
Ascends low (entry ∷ entries) = (low ≤ (id_of entry).0) × Ascends ((id_of entry).0 + 1) entries
