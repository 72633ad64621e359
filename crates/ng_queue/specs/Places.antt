-- Entries at places, for the scans of the front of a queue.
use Rattle.std.specs.Prelude.{◌≡◌, ℕ, List, slice_get, Option, Some, None}
use Rattle.ng_base.specs.declared.ids.ItemId.{ItemId}
use Rattle.ng_machine.specs.declared.item.Item.{Item}
use Rattle.ng_queue.specs.declared.entry.Entry.{Entry}
use Rattle.ng_queue.specs.declared.entry.Entry.TheVariants.{Waiting, Out}
use Rattle.ng_queue.specs.Queue.{head}

-- the entry, if there is one, is the first item that waits
abbrev pub WaitsAs : Option Item → Option Entry → Type 0
WaitsAs first None = first ≡ None
WaitsAs first (Some (Waiting item)) = first ≡ Some item
WaitsAs first (Some (Out mark)) = ⊥

abbrev pub IsHeadAt : List Entry → ℕ → Type 0
IsHeadAt entries place = WaitsAs (head entries) (slice_get entries place)

-- the entry is out, and has this number
abbrev pub OutAs : ItemId → Option Entry → Type 0
OutAs id None = ⊥
OutAs id (Some (Waiting item)) = ⊥
OutAs id (Some (Out mark)) = mark.id ≡ id

abbrev pub IsOutAt : List Entry → ItemId → ℕ → Type 0
IsOutAt entries id place = OutAs id (slice_get entries place)
