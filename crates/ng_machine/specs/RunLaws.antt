-- What else holds of every orderly journal, and callers build on: what is out stays as it is, the limit takes nothing, and an
-- item comes back or is applied by the seat that took it.
use Rattle.std.specs.Prelude.{◌≡◌, ℕ, ◌==◌, true, false, if◌then◌else◌, List, [], ◌∷◌, ◌++◌, Option, Some, None}
use Rattle.std.specs.List.{list_any}
use Rattle.std.specs.Option.{option_or}
use Rattle.ng_base.specs.declared.event.Event.{Event}
use Rattle.ng_base.specs.declared.event.Event.TheVariants.{Take}
use Rattle.ng_base.specs.declared.ids.ItemId.{ItemId}
use Rattle.ng_machine.specs.declared.item.Item.{Item}
use Rattle.ng_machine.specs.Words.{Has}
use Rattle.ng_machine.specs.Laws.{Setting, IsJournal, world_after, run_state_after, taken_by, ends}

-- STAYS OUT: from its Take to its Back or Apply an item is pending, and taken by that seat.
pub record IsOut (item : Item) (seat : ℕ) (s : Setting) (journal : List Event) : Type 0 where
  pub pending : Has item (world_after s journal).pending
  pub taken : Has (taken_by item.id seat) (run_state_after s journal).taken

abbrev pub StaysOut : Type 0
StaysOut =
    (s : Setting) (journal more : List Event) (item : Item) (seat : ℕ) → IsJournal s (journal ++ Take seat item.id ∷ more)
    → Has item (world_after s journal).pending → list_any (ends item.id) more ≡ false
    → IsOut item seat s (journal ++ Take seat item.id ∷ more)

-- SPENT: where the applied items are as many as may be, nothing is taken.
abbrev pub SpentTakesNothing : Type 0
SpentTakesNothing = (s : Setting) (journal : List Event) → IsJournal s journal → (world_after s journal).applies ≡ s.budget → (run_state_after s journal).taken ≡ []

-- BY ITS TAKER: a Back or an Apply is of the seat of the last Take of that item.

abbrev pub taker : ItemId → Event → Option ℕ
taker id (Take seat other) = if other.0 == id.0 then Some seat else None
taker id _ = None

-- the seat of the last Take of the item
abbrev pub last_taker : ItemId → List Event → Option ℕ
last_taker id [] = None
last_taker id (event ∷ events) = option_or (last_taker id events) (taker id event)

abbrev pub ByItsTaker : Type 0
ByItsTaker =
    (s : Setting) (journal rest : List Event) (event : Event) (id : ItemId) → IsJournal s (journal ++ event ∷ rest) → ends id event ≡ true
    → (seat : ℕ) × Has (taken_by id seat) (run_state_after s journal).taken × (last_taker id journal ≡ Some seat)
