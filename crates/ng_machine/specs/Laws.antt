-- The laws of orderly journals: what holds of every run, for every beginning, list of inputs, limit and number of seats.
use Rattle.std.specs.Prelude.{◌≡◌, ◌≢◌, ℕ, ◌+◌, ◌<◌, ◌≤◌, Bool, true, false, ◌&&◌, ◌==◌, nat_le, nat_lt, if◌then◌else◌, List, [], ◌∷◌, ◌++◌, length, is_some, Option, Some, None}
use Rattle.std.specs.List.{list_any}
use Rattle.ng_base.specs.declared.cause.Cause.{Cause}
use Rattle.ng_base.specs.declared.event.Event.{Event}
use Rattle.ng_base.specs.declared.event.Event.TheVariants.{Take, Back, Apply}
use Rattle.ng_base.specs.declared.ids.ItemId.{ItemId}
use Rattle.ng_base.specs.declared.ids.NodeId.{NodeId}
use Rattle.ng_base.specs.declared.kind.Kind.{Kind}
use Rattle.ng_machine.specs.declared.hook.Hook.{Hook}
use Rattle.ng_machine.specs.declared.item.Item.{Item}
use Rattle.ng_machine.specs.Words.{Has, times}
use Rattle.ng_machine.specs.Body.{are_compatible, has_frame, has_id}
use Rattle.ng_machine.specs.declared.plan.Plan.{Plan}
use Rattle.ng_machine.specs.State.{KindState, way_of}
use Rattle.ng_machine.specs.World.{World, NodeRecord, node_at, state_of, start_of}
use Rattle.ng_machine.specs.Feed.{RunInput}
use Rattle.ng_machine.specs.Run.{RunState, Taken, beginning, run, after_all}
use Rattle.ng_machine.specs.Orderly.{IsOrderly, IsWhole}
use Rattle.ng_machine.specs.Plain.{IsPlain}

-- what a run begins with, and what it is given
pub record Setting : Type 0 where
  pub own : List ℕ
  pub ports : List (List ℕ)
  pub stock : List Kind
  pub given : RunInput
  pub budget : ℕ
  pub seats : ℕ

abbrev pub start : Setting → World
start s = start_of s.own s.ports s.stock

abbrev pub run_state_after : Setting → List Event → RunState
run_state_after s journal = after_all s.given (beginning (start s)) journal

abbrev pub world_after : Setting → List Event → World
world_after s journal = (run_state_after s journal).world

abbrev pub IsJournal : Setting → List Event → Type 0
IsJournal s journal = IsOrderly (start s) s.given s.budget s.seats journal

-- the world of a run is the run's world
abbrev pub RunIs : Type 0
RunIs = (s : Setting) (journal : List Event) → run s.given (start s) journal ≡ world_after s journal

-- ONCE: each number from 1 and below the next is that of exactly one item, done, dropped or pending; and none is applied twice.

abbrev pub times_done : World → ItemId → ℕ
times_done w id = times (λ (x : ItemId). x.0 == id.0) w.done

abbrev pub times_dropped : World → ItemId → ℕ
times_dropped w id = times (λ (x : ItemId × Cause). x.0.0 == id.0) w.dropped

abbrev pub times_pending : World → ItemId → ℕ
times_pending w id = times (has_id id) w.pending

abbrev pub IsAccounted : World → Type 0
IsAccounted w = (id : ItemId) → times_done w id + (times_dropped w id + times_pending w id) ≡ (if nat_le 1 id.0 && nat_lt id.0 w.next_item then 1 else 0)

abbrev pub is_apply : ItemId → Event → Bool
is_apply id (Apply other) = other.0 == id.0
is_apply id _ = false

abbrev pub Once : Type 0
Once = (s : Setting) (journal : List Event) → IsJournal s journal → IsAccounted (world_after s journal) × ((id : ItemId) → times (is_apply id) journal ≤ 1)

-- IN ORDER: of two items of a node that aren't readers of different lanes, the later is applied where the earlier is no
-- longer pending.
abbrev pub InOrder : Type 0
InOrder =
    (s : Setting) (journal rest : List Event) (a b : Item) → IsJournal s (journal ++ Apply b.id ∷ rest) → Has b (world_after s journal).pending
    → a.id.0 < b.id.0 → a.to ≡ b.to → are_compatible a b ≡ false → Has a (world_after s journal).pending → ⊥

-- A WRITER ALONE: where a writer is taken, nothing else of its node is.

abbrev pub taken_by : ItemId → ℕ → Taken
taken_by id seat = record { id = id; seat = seat }

abbrev pub IsAlone : Type 0
IsAlone =
    (s : Setting) (journal : List Event) (a b : Item) (i j : ℕ) → IsJournal s journal
    → Has a (world_after s journal).pending → Has b (world_after s journal).pending
    → Has (taken_by a.id i) (run_state_after s journal).taken → Has (taken_by b.id j) (run_state_after s journal).taken
    → a.to ≡ b.to → a.writer ≡ true → a ≡ b

-- And while an item is taken, its node is there with its name and hooks as they were; for a writer with its part; for a
-- reading packet with what a plan holds.

-- the event ends the taking of this item
abbrev pub ends : ItemId → Event → Bool
ends id (Back other) = other.0 == id.0
ends id (Apply other) = other.0 == id.0
ends id _ = false

abbrev pub name_at : Option NodeRecord → Option (Option (List ℕ))
name_at None = None
name_at (Some node) = Some node.name

abbrev pub hooks_at : Option NodeRecord → Option (List Hook)
hooks_at None = None
hooks_at (Some node) = Some node.hooks

abbrev pub kept_at : Option NodeRecord → Option KindState
kept_at None = None
kept_at (Some node) = Some node.kept

abbrev pub way_at : Option NodeRecord → Option (Option Plan)
way_at None = None
way_at (Some node) = Some (way_of (state_of node))

pub record IsLikeBefore (item : Item) (before now : Option NodeRecord) : Type 0 where
  pub there : is_some now ≡ true
  pub name : name_at now ≡ name_at before
  pub hooks : hooks_at now ≡ hooks_at before
  pub kept : item.writer ≡ true → kept_at now ≡ kept_at before
  pub way : has_frame item ≡ true → item.writer ≡ false → way_at now ≡ way_at before

abbrev pub IsStill : Type 0
IsStill =
    (s : Setting) (journal more : List Event) (item : Item) (seat : ℕ) → IsJournal s (journal ++ Take seat item.id ∷ more)
    → Has item (world_after s journal).pending → list_any (ends item.id) more ≡ false
    → IsLikeBefore item (node_at (world_after s journal) item.to) (node_at (world_after s (journal ++ Take seat item.id ∷ more)) item.to)

-- what is taken is pending
abbrev pub TakenWaits : Type 0
TakenWaits =
    (s : Setting) (journal : List Event) (t : Taken) → IsJournal s journal → Has t (run_state_after s journal).taken
    → (item : Item) × Has item (world_after s journal).pending × (item.id ≡ t.id)

abbrev pub WriterAlone : Type 0
WriterAlone = TakenWaits × IsAlone × IsStill

-- AT ONE SEAT: an item is taken by one seat at most, and a seat has one item at most.
abbrev pub TakenOnce : Type 0
TakenOnce =
    (s : Setting) (journal : List Event) → IsJournal s journal
    → ((id : ItemId) (i j : ℕ) → Has (taken_by id i) (run_state_after s journal).taken → Has (taken_by id j) (run_state_after s journal).taken → i ≡ j)
    × ((a b : ItemId) (i : ℕ) → Has (taken_by a i) (run_state_after s journal).taken → Has (taken_by b i) (run_state_after s journal).taken → a ≡ b)

-- WHOLE: where a journal is whole, nothing is taken: in a quiet world nothing is pending, and a Stop comes where the applied
-- items alone are as many as may be.
abbrev pub WholeTakesNothing : Type 0
WholeTakesNothing = (s : Setting) (journal : List Event) → IsJournal s journal → IsWhole (start s) s.given journal → (run_state_after s journal).taken ≡ []

-- RETIRED: once a node is gone, no item of it is pending, so none is applied, and none is accepted later; its number is
-- not used again.

-- a number below the next one that has no node: 0, which never had one, or that of a node that went
abbrev pub IsGone : World → NodeId → Type 0
IsGone w id = (id.0 < length w.nodes) × (node_at w id ≡ None)

abbrev pub Retired : Type 0
Retired =
    (s : Setting) (journal more : List Event) (id : NodeId) → IsJournal s (journal ++ more) → IsGone (world_after s journal) id
    → IsGone (world_after s (journal ++ more)) id × ((item : Item) → Has item (world_after s (journal ++ more)).pending → item.to ≢ id)

-- SERIAL: each item that is applied is free: no earlier item of its node that is pending stands against it.

-- the item is pending, and each earlier pending item of its node is, like it, a reader and has another lane
abbrev pub IsFree : World → ItemId → Type 0
IsFree w id =
    (item : Item) × Has item w.pending × (item.id ≡ id)
    × ((other : Item) → Has other w.pending → other.to ≡ item.to → other.id.0 < id.0 → are_compatible other item ≡ true)

abbrev pub Serial : Type 0
Serial = (s : Setting) (journal rest : List Event) (id : ItemId) → IsJournal s (journal ++ Apply id ∷ rest) → IsFree (world_after s journal) id

-- PLAIN: from one beginning there is one plain journal, and no other, and it is orderly.

abbrev pub PlainIsThere : Type 0
PlainIsThere = (s : Setting) → (journal : List Event) × IsPlain (start s) s.given s.budget journal

abbrev pub PlainIsOne : Type 0
PlainIsOne = (s : Setting) (a b : List Event) → IsPlain (start s) s.given s.budget a → IsPlain (start s) s.given s.budget b → a ≡ b

abbrev pub PlainIsOrderly : Type 0
PlainIsOrderly = (s : Setting) (journal : List Event) → IsPlain (start s) s.given s.budget journal → IsOrderly (start s) s.given s.budget 1 journal
