-- The laws that an orderly journal keeps, all together.
use Rattle.std.specs.Prelude.{◌≡◌, ◌≢◌, ℕ, ◌<◌, ◌≤◌, true, false, List, ◌∷◌, ◌++◌}
use Rattle.std.specs.List.{list_any}
use Rattle.ng_base.specs.declared.event.Event.{Event}
use Rattle.ng_base.specs.declared.event.Event.TheVariants.{Apply, Take}
use Rattle.ng_base.specs.declared.ids.ItemId.{ItemId}
use Rattle.ng_base.specs.declared.ids.NodeId.{NodeId}
use Rattle.ng_machine.specs.declared.item.Item.{Item}
use Rattle.ng_machine.specs.Body.{are_compatible}
use Rattle.ng_machine.specs.Laws.{Setting, IsAccounted, IsFree, IsGone, IsJournal, IsLikeBefore, ends, is_apply, run_state_after, taken_by, world_after}
use Rattle.ng_machine.specs.Words.{Has, times}
use Rattle.ng_machine.specs.World.{node_at}

pub record KeepsLaws (s : Setting) (journal : List Event) : Type 0 where
  -- each item that was accepted is done, dropped or pending, and is one of these once; and none is applied twice
  pub accounted : IsAccounted (world_after s journal)
  pub once : (id : ItemId) → times (is_apply id) journal ≤ 1
  -- of two items of a node that aren't readers of different lanes the later isn't applied before the earlier
  pub in_order : (before rest : List Event) (a b : Item) → journal ≡ before ++ Apply b.id ∷ rest → Has b (world_after s before).pending
      → a.id.0 < b.id.0 → a.to ≡ b.to → are_compatible a b ≡ false → Has a (world_after s before).pending → ⊥
  -- a writer is alone on its node, at every time
  pub writer_alone : (before rest : List Event) (a b : Item) (i j : ℕ) → journal ≡ before ++ rest
      → Has a (world_after s before).pending → Has b (world_after s before).pending
      → Has (taken_by a.id i) (run_state_after s before).taken → Has (taken_by b.id j) (run_state_after s before).taken
      → a.to ≡ b.to → a.writer ≡ true → a ≡ b
  -- while an item is taken its node is there, as it was when the item was taken
  pub still : (before more rest : List Event) (item : Item) (seat : ℕ) → journal ≡ (before ++ Take seat item.id ∷ more) ++ rest
      → Has item (world_after s before).pending → list_any (ends item.id) more ≡ false
      → IsLikeBefore item (node_at (world_after s before) item.to) (node_at (world_after s (before ++ Take seat item.id ∷ more)) item.to)
  -- a node that is gone stays gone, and nothing waits for it again
  pub retired : (before rest : List Event) (id : NodeId) → journal ≡ before ++ rest → IsGone (world_after s before) id
      → IsGone (world_after s journal) id × ((item : Item) → Has item (world_after s journal).pending → item.to ≢ id)
  -- each item that is applied is free then
  pub serial : (before rest : List Event) (id : ItemId) → journal ≡ before ++ Apply id ∷ rest → IsFree (world_after s before) id

abbrev pub OrderlyIsLawful : Type 0
OrderlyIsLawful = (s : Setting) (journal : List Event) → IsJournal s journal → KeepsLaws s journal
