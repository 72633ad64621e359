-- Passes of a counter's seats that are taken from a list one by one, and the counter that comes out at the end.
use Rattle.std.proofs.Common.{◌≡◌, ◌+◌, ◌<◌, ℕ, zero, suc, List, [], ◌∷◌, ◌++◌, length, replicate, sym, refl, ap, ◌∙◌, subst, arith}
use Rattle.std.specs.Prelude.{slice_index}
use Rattle.std.proofs.Math.ListN.{length-replicate}
use Rattle.ng_turn.specs.declared.pass.Pass.{Pass}
use Rattle.ng_turn.specs.declared.turn.Turn.{Turn}
use Rattle.ng_turn.specs.Words.{EachPass, Begins, desk_of, seat_of, seats_of}
use Rattle.ng_turn.proofs.Lists.{place_below, there_below}
use Rattle.ng_turn.proofs.Passes.{EachAt, each_last, each_less, each_more}
use Rattle.ng_machine_tests.specs.declared.counter.counter.Counter.{Counter}
use Rattle.ng_machine_tests.specs.declared.counter.counter.Desk.{Desk}
use Rattle.ng_machine_tests.specs.counter.Counter.{additions_of, start_of, desk_at, blank_desk}
use Rattle.ng_machine_tests.specs.counter.Passes.{IsOf, Added, HasAdded, HaveAdded, AreIdle, AreDone}

zero_at : (n k : ℕ) → slice_index (replicate n 0) k ≡ 0
zero_at zero k = refl
zero_at (suc n) zero = refl
zero_at (suc n) (suc k) = zero_at n k

-- the passes of the first seats that are done, and then the next seat, which had added nothing and has now added as often as it should
pub done_more : (turn : Turn Counter Desk) (all less : List (Pass Counter Desk)) (old new : Pass Counter Desk) (times seat : ℕ)
    → all ≡ less ++ new ∷ [] → AreDone turn less
    → length less ≡ seat → times ≡ seat_of old + 1 → IsOf turn new → Added old times new → HasAdded turn (λ k. 0) seat old → AreDone turn all
done_more turn all less old new times seat is done len enough own added was =
    let here : seat_of old ≡ length less = was.1 ∙ sym len in
    let sum : 0 + times ≡ length less + 1 = omega arith in
    let desk : desk_of blank_desk new ≡ record { start = 0; seats = seats_of turn; additions = length less + 1 } =
    added.1 ∙ ap (λ (d : Desk). let e : Desk = record d { additions = d.additions + times } in e) was.3
    ∙ ap (λ (n : ℕ). let e : Desk = record { start = 0; seats = seats_of turn; additions = n } in e) sum in
    each_more (HasAdded turn (λ k. k + 1)) all less new is done (own, added.0 ∙ here, subst (λ n. n < seats_of turn) (sym len) was.2, desk)

module _ (turn : Turn Counter Desk) (passes : List (Pass Counter Desk)) (counter : Counter) (seats : ℕ) where
  pub begun_idle : start_of counter ≡ 0 → additions_of counter ≡ replicate seats 0
      → Begins blank_desk desk_at counter seats turn passes → AreIdle turn passes
  begun_idle start zeros made k p at =
      let is = made.2 k p at in
      let below : k < seats = subst (λ n. k < n) made.0 (place_below passes k p at) in
      let none : slice_index (additions_of counter) k ≡ 0 = ap (λ l. slice_index l k) zeros ∙ zero_at seats k in
      let len : length (additions_of counter) ≡ seats_of turn = ap length zeros ∙ length-replicate seats 0 ∙ sym made.1 in
      let desk : desk_at counter k ≡ record { start = 0; seats = seats_of turn; additions = 0 } =
      λ i. record { start = start i; seats = len i; additions = none i } in
      (is.0, is.1, subst (λ n. k < n) (sym made.1) below, is.2 ∙ desk)

  pub ended : (times : ℕ → ℕ) → 0 < seats → length passes ≡ seats → seats_of turn ≡ seats → HaveAdded turn times passes
      → EachPass (λ k p. desk_at counter k ≡ desk_of blank_desk p) passes
      → (start_of counter ≡ 0) × (length (additions_of counter) ≡ seats) × ((k : ℕ) → k < seats → slice_index (additions_of counter) k ≡ times k)
  ended times some_seat len all added desks =
      let each : (k : ℕ) → k < seats → desk_at counter k ≡ record { start = 0; seats = seats_of turn; additions = times k } =
      λ k below.
      let there = there_below passes k (subst (λ n. k < n) (sym len) below) in
      desks k there.0 there.1 ∙ (added k there.0 there.1).3 in
      let first = each 0 some_seat in
      (ap (λ (d : Desk). d.start) first, ap (λ (d : Desk). d.seats) first ∙ all, λ k below. ap (λ (d : Desk). d.additions) (each k below))

two_same : (xs ys : List ℕ) → length xs ≡ 2 → length ys ≡ 2 → slice_index xs 0 ≡ slice_index ys 0
    → slice_index xs 1 ≡ slice_index ys 1 → xs ≡ ys
two_same [] ys len len' first second = absurd (omega arith)
two_same (x ∷ []) ys len len' first second = absurd (omega arith)
two_same (x ∷ y ∷ z ∷ zs) ys len len' first second = absurd (omega arith)
two_same (x ∷ y ∷ []) [] len len' first second = absurd (omega arith)
two_same (x ∷ y ∷ []) (v ∷ []) len len' first second = absurd (omega arith)
two_same (x ∷ y ∷ []) (v ∷ w ∷ u ∷ us) len len' first second = absurd (omega arith)
two_same (x ∷ y ∷ []) (v ∷ w ∷ []) len len' first second = λ i. first i ∷ second i ∷ []

-- the desks of its two seats are the whole counter
pub same_of_desks : (back counter : Counter) → length (additions_of counter) ≡ 2
    → desk_at back 0 ≡ desk_at counter 0 → desk_at back 1 ≡ desk_at counter 1
    → (start_of back ≡ start_of counter) × (additions_of back ≡ additions_of counter)
same_of_desks back counter two first second = (
  ap (λ (d : Desk). d.start) first,
  two_same (additions_of back) (additions_of counter) (ap (λ (d : Desk). d.seats) first ∙ two) two
      (ap (λ (d : Desk). d.additions) first) (ap (λ (d : Desk). d.additions) second),
)

-- the pass of this seat, with the desk that the counter has for the seat
abbrev pub AsIn : Turn Counter Desk → Counter → ℕ → Pass Counter Desk → Type 0
AsIn turn counter seat pass = IsOf turn pass × (seat_of pass ≡ seat) × (desk_of blank_desk pass ≡ desk_at counter seat)

-- the passes of two seats, taken from their list
module _ (turn : Turn Counter Desk) (counter : Counter) (all less none : List (Pass Counter Desk)) (first second : Pass Counter Desk)
    (is : all ≡ less ++ second ∷ []) (is' : less ≡ none ++ first ∷ []) (begun : EachAt (AsIn turn counter) all) where
  pub second_of_two : AsIn turn counter (length less) second
  second_of_two = each_last (AsIn turn counter) all less second is begun

  pub first_of_two : AsIn turn counter (length none) first
  first_of_two = each_last (AsIn turn counter) less none first is' (each_less (AsIn turn counter) all less second is begun)

  pub less_of_two : EachAt (AsIn turn counter) none
  less_of_two = each_less (AsIn turn counter) less none first is' (each_less (AsIn turn counter) all less second is begun)

-- a pass that came back with the desk that it went out with
pub as_before : (turn : Turn Counter Desk) (counter : Counter) (seat : ℕ) (old new : Pass Counter Desk)
    → AsIn turn counter seat old → IsOf turn new → seat_of new ≡ seat_of old
    → desk_of blank_desk new ≡ desk_of blank_desk old → AsIn turn counter seat new
as_before turn counter seat old new was own same same' = (own, same ∙ was.1, same' ∙ was.2)

-- the counter at the end, when each pass came back as it went out
pub round_ended : (turn : Turn Counter Desk) (counter back : Counter) (passes : List (Pass Counter Desk))
    → length (additions_of counter) ≡ 2 → length passes ≡ 2
    → EachAt (AsIn turn counter) passes → EachPass (λ k p. desk_at back k ≡ desk_of blank_desk p) passes
    → (start_of back ≡ start_of counter) × (additions_of back ≡ additions_of counter)
round_ended turn counter back passes two len each desks =
    let same : (k : ℕ) → k < 2 → desk_at back k ≡ desk_at counter k =
    λ k below.
    let there = there_below passes k (subst (λ n. k < n) (sym len) below) in
    desks k there.0 there.1 ∙ (each k there.0 there.1).2 in
    same_of_desks back counter two (same 0 (omega arith)) (same 1 (omega arith))
