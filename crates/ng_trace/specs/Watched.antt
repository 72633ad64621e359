-- What is noted of a run: of which input each item came, what became of the packet of each input, and how often something
-- ended at each node.
use Rattle.std.specs.Prelude.{ℕ, ◌+◌, ◌-◌, Bool, true, false, nat_lt, List, [], ◌∷◌, ◌++◌, length, replicate, slice_index_or, slice_set, Option, Some, None}
use Rattle.ng_base.specs.declared.ids.ItemId.{ItemId}
use Rattle.ng_machine.specs.declared.body.Door.{Door}
use Rattle.ng_machine.specs.Totals.{cause_number}
use Rattle.ng_trace.specs.declared.ending.Ending.{Ending}
use Rattle.ng_trace.specs.declared.ending.Ending.TheVariants.{Ended, Refused, Lost, Dropped}
use Rattle.ng_trace.specs.declared.ending.Label.{Label}
use Rattle.ng_trace.specs.declared.ending.Place.{Place}
use Rattle.ng_trace.specs.declared.ending.Spot.{Spot}
use Rattle.ng_trace.specs.declared.sums.NodeSum.{NodeSum}

-- what became of a packet: whether a copy of it left the graph, and if none did where its copies ended, as far as that is kept
pub record Journey : Type 0 where
  pub reached : Bool
  pub places : List Place
  pub more : ℕ  -- how many more places there are

pub record Watched : Type 0 where
  pub origins : List ℕ  -- by the numbers of items: the input of which it came
  pub journeys : List Journey  -- by the numbers of inputs, from 0
  pub sums : List NodeSum  -- by the numbers of nodes

-- The endings by their numbers

abbrev pub ending_number : Ending → ℕ
ending_number Ended = 0
ending_number (Refused errno) = 1
ending_number (Lost cause) = 1 + cause_number cause
ending_number (Dropped cause) = 7 + cause_number cause

abbrev pub blank_journey : Journey
blank_journey = record { reached = false; places = []; more = 0 }

abbrev pub blank_sum : Label → NodeSum
blank_sum label = record { label = label; counts = replicate 14 0 }

-- nothing is noted of a run of this number of inputs; no item has the number 0
abbrev pub nothing_noted : ℕ → Watched
nothing_noted inputs = record { origins = 0 ∷ []; journeys = replicate inputs blank_journey; sums = [] }

-- the input of which an item came
abbrev pub origin_of : Watched → ItemId → ℕ
origin_of t id = slice_index_or t.origins id.0 0

-- new items, by their number, come of this input
abbrev pub with_items : ℕ → ℕ → Watched → Watched
with_items count of t = record t { origins = t.origins ++ replicate count of }

-- Of a packet that reached something no place is kept, and else the first eight.

abbrev pub most_places : ℕ
most_places = 8

abbrev pub add_unless : Bool → Bool → Place → Journey → Journey
add_unless true room place j = j
add_unless false false place j = record j { more = j.more + 1 }
add_unless false true place j = record j { places = j.places ++ place ∷ [] }

abbrev pub add_place : Place → Journey → Journey
add_place place j = add_unless j.reached (nat_lt (length j.places) most_places) place j

abbrev pub reach : Journey → Journey
reach j = record { reached = true; places = []; more = 0 }

abbrev pub change_journey : ℕ → (Journey → Journey) → Watched → Watched
change_journey of f t = record t { journeys = slice_set t.journeys of (f (slice_index_or t.journeys of blank_journey)) }

-- the sums, with a place for the node of that label; what is new counts nothing
abbrev pub widened : Label → List NodeSum → List NodeSum
widened label sums = sums ++ replicate (label.node.0 + 1 - length sums) (blank_sum label)

abbrev pub count_one : Ending → List ℕ → List ℕ
count_one why counts = slice_set counts (ending_number why) (slice_index_or counts (ending_number why) 0 + 1)

abbrev pub sum_with : Label → Ending → NodeSum → NodeSum
sum_with label why sum = record { label = label; counts = count_one why sum.counts }

abbrev pub sum_at : ℕ → Label → Ending → List NodeSum → List NodeSum
sum_at node label why sums = slice_set sums node (sum_with label why (slice_index_or sums node (blank_sum label)))

abbrev pub sum_up : Label → Ending → Watched → Watched
sum_up label why t = record t { sums = sum_at label.node.0 label why (widened label t.sums) }

-- An item ended so, or a copy that was made of it.

abbrev pub place_by : Spot → Option Door → Ending → Watched → Watched
place_by spot None why t = t
place_by spot (Some door) why t = change_journey (origin_of t spot.id) (add_place (record { label = spot.label; door = door; why = why })) t

abbrev pub note_ending : Spot → Watched → Ending → Watched
note_ending spot t why = place_by spot spot.door why (sum_up spot.label why t)

abbrev pub note_endings : Spot → Watched → List Ending → Watched
note_endings spot t [] = t
note_endings spot t (why ∷ others) = note_endings spot (note_ending spot t why) others

-- each of these is dropped
abbrev pub note_drops : Ending → Watched → List Spot → Watched
note_drops why t [] = t
note_drops why t (spot ∷ spots) = note_drops why (note_ending spot t why) spots

-- a copy of the packet left the graph
abbrev pub note_reached : Bool → ItemId → Watched → Watched
note_reached false id t = t
note_reached true id t = change_journey (origin_of t id) reach t
