-- Items are dropped one by one.
use Rattle.std.proofs.Common.{◌≡◌, ℕ, zero, suc, ◌+◌, ◌-◌, ◌<◌, ◌≤◌, List, [], ◌∷◌, length, get_or, refl, sym, ap, ◌∙◌, subst, arith}
use Rattle.std.specs.Prelude.{drop}
use Rattle.ng_machine.specs.declared.item.Item.{Item}
use Rattle.ng_machine.specs.Words.{times}
use Rattle.ng_machine.specs.Body.{has_frame, has_tick}
use Rattle.ng_queue.specs.declared.tally.tally.Tally.{Tally}
use Rattle.ng_queue.specs.tally.Tally.{is_tagged, HasNumbers, HasCounted, without_node}
use Rattle.ng_queue.proofs.tally.CountsOfWorld.{same_counts}

pub drop_next : {A : Type 0} (xs : List A) (i : ℕ) (x : A) → i < length xs → x ≡ get_or xs i x → drop i xs ≡ x ∷ drop (suc i) xs
drop_next [] i x lt is = absurd (omega arith)
drop_next {A = A} (y ∷ ys) zero x lt is = ap (λ (z : A). z ∷ ys) (sym is)
drop_next (y ∷ ys) (suc i) x lt is = drop_next ys i x (omega arith) is

first_counted : (t : Tally) (x : Item) (xs : List Item) → HasCounted t (x ∷ xs) → HasCounted t (x ∷ [])
first_counted t x xs C = record {
  pending = let le = C.pending in omega arith;
  frames = let le = C.frames in omega arith;
  ticks = let le = C.ticks in omega arith;
  tagged = let le = C.tagged in omega arith;
}

numbers_less : (t : Tally) (x : Item) (xs : List Item) → HasNumbers 0 t → HasCounted t (x ∷ xs) → HasNumbers 0 (without_node t (x ∷ []))
numbers_less t x xs N C = record {
  made = N.made;
  settled = let le = C.pending in let lt = N.settled in omega arith;
  applies = N.applies;
  frames = let lt = N.frames in omega arith;
  ticks = let lt = N.ticks in omega arith;
  tagged = let lt = N.tagged in omega arith;
  spool = N.spool;
}

rest_counted : (t : Tally) (x : Item) (xs : List Item) → HasCounted t (x ∷ xs) → HasCounted (without_node t (x ∷ [])) xs
rest_counted t x xs C = record {
  pending = let le = C.pending in omega arith;
  frames = let le = C.frames in omega arith;
  ticks = let le = C.ticks in omega arith;
  tagged = let le = C.tagged in omega arith;
}

minus_twice : (a b c d : ℕ) → c + d ≡ b → a - c - d ≡ a - b
minus_twice a b c d e = omega arith

then_rest : (t : Tally) (x : Item) (xs : List Item) → without_node (without_node t (x ∷ [])) xs ≡ without_node t (x ∷ xs)
then_rest t x xs =
    ap (λ (n : ℕ). record (without_node (without_node t (x ∷ [])) xs) { node_gone = n }) (let e : t.node_gone + length (x ∷ []) + length xs ≡ t.node_gone + length (x ∷ xs) = omega arith in e)
    ∙ same_counts t t.done (t.node_gone + length (x ∷ xs)) t.hook_gone t.budget
    (minus_twice t.pending (length (x ∷ xs)) (length (x ∷ [])) (length xs) (omega arith))
    (minus_twice t.frames (times has_frame (x ∷ xs)) (times has_frame (x ∷ [])) (times has_frame xs) (omega arith))
    (minus_twice t.ticks (times has_tick (x ∷ xs)) (times has_tick (x ∷ [])) (times has_tick xs) (omega arith))
    (minus_twice t.tagged (times is_tagged (x ∷ xs)) (times is_tagged (x ∷ [])) (times is_tagged xs) (omega arith))

-- what is left to drop
abbrev pub Left : Tally → Tally → List Item → List Item → Type 0
Left t before items all = HasNumbers 0 t × HasCounted t items × (without_node t items ≡ without_node before all)

left_next : (t before : Tally) (x : Item) (xs all : List Item) → Left t before (x ∷ xs) all → Left (without_node t (x ∷ [])) before xs all
left_next t before x xs all L = (numbers_less t x xs L.0 L.1, rest_counted t x xs L.1, then_rest t x xs ∙ L.2)

pub left_after : (t u before : Tally) (x : Item) (items all : List Item) (i : ℕ) → i < length items → x ≡ get_or items i x → u ≡ without_node t (x ∷ [])
    → Left t before (drop i items) all → Left u before (drop (i + 1) items) all
left_after t u before x items all i lt is after L =
    let next = drop_next items i x lt is in
    let rest = left_next t before x (drop (suc i) items) all (subst (λ (l : List Item). Left t before l all) next L) in
    subst (λ (n : ℕ). Left u before (drop n items) all) (let e : suc i ≡ i + 1 = omega arith in e) (subst (λ (v : Tally). Left v before (drop (suc i) items) all) (sym after) rest)

pub first_of_left : (t before : Tally) (x : Item) (items all : List Item) (i : ℕ) → i < length items → x ≡ get_or items i x → Left t before (drop i items) all → HasCounted t (x ∷ [])
first_of_left t before x items all i lt is L =
    first_counted t x (drop (suc i) items) (subst (λ (l : List Item). HasCounted t l) (drop_next items i x lt is) L.1)

pub none_left : (t before : Tally) (items : List Item) (i : ℕ) → length items ≤ i → Left t before (drop i items) items → t ≡ without_node before items
none_left t before items i le L = sym nothing ∙ subst (λ (l : List Item). without_node t l ≡ without_node before items) (drop_all items i le) L.2
  where
    drop_all : (xs : List Item) (i : ℕ) → length xs ≤ i → drop i xs ≡ []
    drop_all [] zero le = refl
    drop_all [] (suc i) le = refl
    drop_all (x ∷ xs) zero le = absurd (omega arith)
    drop_all (x ∷ xs) (suc i) le = drop_all xs i (omega arith)

    nothing : without_node t [] ≡ t
    nothing = ap (λ (n : ℕ). record (without_node t []) { node_gone = n }) (let e : t.node_gone + 0 ≡ t.node_gone = omega arith in e)
        ∙ same_counts t t.done t.node_gone t.hook_gone t.budget (let e : t.pending - 0 ≡ t.pending = omega arith in e) (let e : t.frames - 0 ≡ t.frames = omega arith in e) (let e : t.ticks - 0 ≡ t.ticks = omega arith in e) (let e : t.tagged - 0 ≡ t.tagged = omega arith in e)
