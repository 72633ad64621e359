-- What a contract says of a turn, of its passes and of a held value.
use Rattle.std.specs.Prelude.{◌≡◌, ◌≢◌, ℕ, List, [], ◌∷◌, length, Option}
use mathlib.Core.Option.{some}
use lib.ListN.{get_elem?}
use Rattle.std.specs.declared.alloc.Global.{Global}
use Rattle.crossbeam_queue.specs.Passes.{view, IsPassOf}
use Rattle.crossbeam_queue.specs.declared.array_queue.Doing.{Doing}
use Rattle.crossbeam_queue.specs.declared.array_queue.Slotted.{Slotted}
use Rattle.crossbeam_queue.specs.declared.array_queue.Turns.{Turns}
use Rattle.ng_turn.specs.declared.turn.Turn.{Turn}
use Rattle.ng_turn.specs.declared.pass.Pass.{Pass}
use Rattle.ng_turn.specs.declared.held.Held.{Held}
use Rattle.ng_turn.specs.declared.rule.View.{View}
use Rattle.ng_turn.specs.declared.rule.View.TheVariants.{Opening, Stock, Waits, Holds}
use Rattle.ng_turn.specs.declared.rule.InTurn.{InTurn}

-- the queue of one place in which the value lies
abbrev pub Place : Type 0 → Type 0 → Type 0
Place T D = Slotted (Option T) (Doing T (View T D)) (Turns InTurn) Global

-- the first of the desks, or the blank one
abbrev pub first_desk : {D : Type 0} → D → List (ℕ × D) → D
first_desk blank [] = blank
first_desk blank (known ∷ others) = known.1

module _ {T D : Type 0} where
  -- the desk that the view of one seat knows
  abbrev pub known_desk : D → View T D → D
  known_desk blank Opening = blank
  known_desk blank (Stock value next) = blank
  known_desk blank (Waits desks) = first_desk blank desks
  known_desk blank (Holds found seats) = blank

  -- the seat of the pass
  abbrev pub seat_of : Pass T D → ℕ
  seat_of pass = pass.seat

  -- the desk that the pass remembers
  abbrev pub desk_of : D → Pass T D → D
  desk_of blank pass = known_desk blank (view pass.ticket)

  -- the number of seats
  abbrev pub seats_of : Turn T D → ℕ
  seats_of turn = turn.seats

  -- the seat that has the value
  abbrev pub holder : Held T D → ℕ
  holder held = held.seat

  -- the value as it is now
  abbrev pub value_of : Held T D → T
  value_of held = held.value

  -- the value as it was taken
  abbrev pub found_value : Held T D → T
  found_value held = held.found.value

  -- a pass of this place: its view knows its own seat and the seat's desk, and nothing else
  abbrev pub IsPassAt : D → Place T D → Pass T D → Type 0
  IsPassAt blank place pass = IsPassOf place pass.ticket × (view pass.ticket ≡ Waits ((pass.seat, desk_of blank pass) ∷ []))

  -- a pass of this turn
  abbrev pub IsPass : D → Turn T D → Pass T D → Type 0
  IsPass blank turn pass = IsPassAt blank turn.place pass

  -- the value was taken from this turn
  abbrev pub IsHeld : Turn T D → Held T D → Type 0
  IsHeld turn held = IsPassOf turn.place held.ticket × (view held.ticket ≡ Holds (found_value held) (held.seat ∷ []))

  -- the desk of every other seat is as it was found: of each number but the holder's, whether or not a pass was made for it
  abbrev pub KeepsOthers : (T → ℕ → D) → Held T D → Type 0
  KeepsOthers desk held = (seat : ℕ) → seat ≢ holder held → desk (value_of held) seat ≡ desk (found_value held) seat

  -- P is so of each pass in the list, with its place there
  abbrev pub EachPass : (ℕ → Pass T D → Type 0) → List (Pass T D) → Type 0
  EachPass P passes = (seat : ℕ) (pass : Pass T D) → get_elem? passes seat ≡ some pass → P seat pass

  -- the passes of the first seats of this place, in order, each with its desk of the value
  abbrev pub AreFirst : D → (T → ℕ → D) → Place T D → T → List (Pass T D) → Type 0
  AreFirst blank desk place value passes =
      EachPass (λ seat pass. IsPassAt blank place pass × (seat_of pass ≡ seat) × (desk_of blank pass ≡ desk value seat)) passes

  -- the passes of all seats of this turn, in order
  abbrev pub AreAllPasses : D → Turn T D → List (Pass T D) → Type 0
  AreAllPasses blank turn passes =
      (length passes ≡ seats_of turn) × EachPass (λ seat pass. IsPass blank turn pass × (seat_of pass ≡ seat)) passes

  -- what `new` makes of a value and a number of seats: the passes of all seats, in order, each with its desk of the value
  abbrev pub Begins : D → (T → ℕ → D) → T → ℕ → Turn T D → List (Pass T D) → Type 0
  Begins blank desk value seats turn passes =
      (length passes ≡ seats) × (seats_of turn ≡ seats) × AreFirst blank desk turn.place value passes
