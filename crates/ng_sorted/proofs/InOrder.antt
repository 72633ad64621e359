-- Lists in order of numbers: what a search by a number finds, and what an edit keeps.
use Rattle.std.proofs.Common.{◌≡◌, ℕ, zero, suc, ◌<◌, ◌≤◌, ◌==◌, Bool, true, false, cond, if◌then◌else◌, List, [], ◌∷◌, ◌++◌, length, take, drop, ◌∙◌, get_or, set, map, Some, None, Result, Ok, Err, IfOk, IfErr, OnOk, OnErr, subst, find, slice_get, refl, sym, ap, arith}
use Rattle.std.specs.List.{insert, filter}
use Rattle.std.specs.List.Sorted.{IsSearchInRange, IsBinarySearchResult, IsNonDecreasingBy}
use Rattle.std.specs.Ordering.{nat_cmp, ordering_index}
use Rattle.std.proofs.lemmas.Cmp.{ranked}
use Rattle.std.proofs.lemmas.List.{take_at}
use Rattle.std.proofs.lemmas.Bool.Decides.{nat_tests}
use Rattle.ng_sorted.specs.Order.{IsAbove, IsInOrder, IsGreaterFrom, IsPlace, IsGap}

above_at : {X : Type 0} (key : X → ℕ) (a : ℕ) (xs : List X) (k : ℕ) (d : X) → IsAbove key a xs → k < length xs → a < key (get_or xs k d)
above_at key a [] k d up less = absurd (omega arith)
above_at key a (x ∷ xs) zero d up less = up.0
above_at key a (x ∷ xs) (suc k) d up less = above_at key a xs k d up.1 (omega arith)

-- of two entries the later has the greater number
pub ordered_at : {X : Type 0} (key : X → ℕ) (xs : List X) (i j : ℕ) (d : X) → IsInOrder key xs → i < j → j < length xs → key (get_or xs i d) < key (get_or xs j d)
ordered_at key [] i j d up less below = absurd (omega arith)
ordered_at key (x ∷ xs) i zero d up less below = absurd (omega arith)
ordered_at key (x ∷ xs) zero (suc j) d up less below = above_at key (key x) xs j d up.0 (omega arith)
ordered_at key (x ∷ xs) (suc i) (suc j) d up less below = ordered_at key xs i j d up.1 (omega arith) (omega arith)

-- the comparisons with a number rise along the entries, as a binary search asks
comparisons_rise : {X : Type 0} (key : X → ℕ) (xs : List X) (a : ℕ) → IsInOrder key xs → IsNonDecreasingBy (λ x. ordering_index (nat_cmp (key x) a)) xs
comparisons_rise key xs a up i j d within below =
    let rise : i < j → key (get_or xs i d) < key (get_or xs j d) = λ less. ordered_at key xs i j d up less below in
    let stay : i ≡ j → key (get_or xs i d) ≡ key (get_or xs j d) = λ e. ap (λ k. key (get_or xs k d)) e in
    grind (arith, nat_tests)

searched_at : {X : Type 0} (key : X → ℕ) (xs : List X) (a k : ℕ) → IsInOrder key xs → IsSearchInRange (Ok k) (length xs) → IsBinarySearchResult (λ x. nat_cmp (key x) a) xs (Ok k) → IsPlace key xs a k
searched_at {X} key xs a k up in_range equal =
    let at : (d : X) → key (get_or xs k d) ≡ a = λ d. ranked _ a _ (sym (equal d)) in
    record {
      in_range = in_range;
      same = at;
      lesser = λ j d less. omega (arith, ordered_at key xs j k d up less in_range, at d);
      greater = λ j d from below. omega (arith, ordered_at key xs k j d up (omega arith) below, at d);
    }

searched_gap : {X : Type 0} (key : X → ℕ) (xs : List X) (a k : ℕ) → IsInOrder key xs → IsSearchInRange (Err k) (length xs) → IsBinarySearchResult (λ x. nat_cmp (key x) a) xs (Err k) → IsGap key xs a k
searched_gap key xs a k up in_range parted =
    let parts = parted (comparisons_rise key xs a up) in
    record {
      in_range = in_range;
      lesser = λ j d less. ranked _ a _ (sym (parts.0 j d (omega arith) less));
      greater = λ j d from below. ranked _ a _ (sym (parts.1 j d from below));
    }

-- what a binary search by a number finds
pub searched : {X : Type 0} (key : X → ℕ) (xs : List X) (a : ℕ) (r : Result ℕ ℕ) → IsInOrder key xs → IsSearchInRange r (length xs) → IsBinarySearchResult (λ x. nat_cmp (key x) a) xs r
    → record { found : IfOk r (IsPlace key xs a); missing : IfErr r (IsGap key xs a) }
searched key xs a (Ok k) up in_range result = record { found = searched_at key xs a k up in_range result; missing = tt }
searched key xs a (Err k) up in_range result = record { found = tt; missing = searched_gap key xs a k up in_range result }

-- ---- a place and a gap behind the first entry

pub next_place : {X : Type 0} (key : X → ℕ) (x : X) (xs : List X) (a k : ℕ) → IsPlace key (x ∷ xs) a (suc k) → IsPlace key xs a k
next_place key x xs a k at = record {
  in_range = omega (arith, at.in_range);
  same = at.same;
  lesser = λ j d less. at.lesser (suc j) d (omega arith);
  greater = λ j d from below. at.greater (suc j) d (omega arith) (omega arith);
}

pub next_gap : {X : Type 0} (key : X → ℕ) (x : X) (xs : List X) (a k : ℕ) → IsGap key (x ∷ xs) a (suc k) → IsGap key xs a k
next_gap key x xs a k at = record {
  in_range = omega (arith, at.in_range);
  lesser = λ j d less. at.lesser (suc j) d (omega arith);
  greater = λ j d from below. at.greater (suc j) d (omega arith) (omega arith);
}

-- a list all of whose entries have greater numbers
pub first_gap : {X : Type 0} (key : X → ℕ) (xs : List X) (a : ℕ) → IsGreaterFrom key xs a 0 → IsGap key xs a 0
first_gap key xs a more = record { in_range = omega arith; lesser = λ j d less. absurd (omega arith); greater = more }

-- ---- finding

pub find_place : {X : Type 0} (key : X → ℕ) (xs : List X) (a k : ℕ) → IsPlace key xs a k → find (λ x. key x == a) xs ≡ slice_get xs k
find_place key [] a k at = absurd (omega (arith, at.in_range))
find_place key (x ∷ xs) a zero at = grind (arith, nat_tests, at.same x)
find_place key (x ∷ xs) a (suc k) at = grind (arith, nat_tests, at.lesser 0 x (omega arith), find_place key xs a k (next_place key x xs a k at))

pub find_gap : {X : Type 0} (key : X → ℕ) (xs : List X) (a k : ℕ) → IsGap key xs a k → find (λ x. key x == a) xs ≡ None
find_gap key [] a k at = refl
find_gap key (x ∷ xs) a zero at =
    grind (arith, nat_tests, at.greater 0 x (omega arith) (omega arith), find_gap key xs a 0 (first_gap key xs a (λ j d from below. at.greater (suc j) d (omega arith) (omega arith))))
find_gap key (x ∷ xs) a (suc k) at = grind (arith, nat_tests, at.lesser 0 x (omega arith), find_gap key xs a k (next_gap key x xs a k at))

-- what stands at a place
pub get_at : {X : Type 0} (xs : List X) (k : ℕ) (x : X) → k < length xs → x ≡ get_or xs k x → slice_get xs k ≡ Some x
get_at [] k x below e = absurd (omega arith)
get_at (y ∷ xs) zero x below e = ap Some (sym e)
get_at (y ∷ xs) (suc k) x below e = get_at xs k x (omega arith) e

-- ---- a change of the entry of a number

abbrev pub change_at : {X : Type 0} → (X → ℕ) → ℕ → (X → X) → X → X
change_at key a f x = if key x == a then f x else x

pub change_none : {X : Type 0} (key : X → ℕ) (xs : List X) (a k : ℕ) (f : X → X) → IsGap key xs a k → map (change_at key a f) xs ≡ xs
change_none key [] a k f at = refl
change_none key (x ∷ xs) a zero f at =
    grind (arith, nat_tests, at.greater 0 x (omega arith) (omega arith), change_none key xs a 0 f (first_gap key xs a (λ j d from below. at.greater (suc j) d (omega arith) (omega arith))))
change_none key (x ∷ xs) a (suc k) f at = grind (arith, nat_tests, at.lesser 0 x (omega arith), change_none key xs a k f (next_gap key x xs a k at))

pub change_one : {X : Type 0} (key : X → ℕ) (xs : List X) (a k : ℕ) (f : X → X) (y : X) → IsPlace key xs a k → y ≡ get_or xs k y → set xs k (f y) ≡ map (change_at key a f) xs
change_one key [] a k f y at e = absurd (omega (arith, at.in_range))
change_one key (x ∷ xs) a zero f y at e =
    grind (arith, nat_tests, at.same x, e, change_none key xs a 0 f (first_gap key xs a (λ j d from below. at.greater (suc j) d (omega arith) (omega arith))))
change_one key (x ∷ xs) a (suc k) f y at e = grind (arith, nat_tests, at.lesser 0 x (omega arith), change_one key xs a k f y (next_place key x xs a k at) e)

-- ---- what keeps the order

above_filter : {X : Type 0} (key : X → ℕ) (p : X → Bool) (a : ℕ) (xs : List X) → IsAbove key a xs → IsAbove key a (filter p xs)
above_filter key p a [] up = tt
above_filter key p a (x ∷ xs) up = elim (p x) as (λ b. IsAbove key a (cond b (x ∷ filter p xs) (filter p xs))) [ true ↦ (up.0, above_filter key p a xs up.1) | false ↦ above_filter key p a xs up.1 ]

pub ordered_filter : {X : Type 0} (key : X → ℕ) (p : X → Bool) (xs : List X) → IsInOrder key xs → IsInOrder key (filter p xs)
ordered_filter key p [] up = tt
ordered_filter key p (x ∷ xs) up = elim (p x) as (λ b. IsInOrder key (cond b (x ∷ filter p xs) (filter p xs))) [ true ↦ (above_filter key p (key x) xs up.0, ordered_filter key p xs up.1) | false ↦ ordered_filter key p xs up.1 ]

above_map : {X : Type 0} (key : X → ℕ) (f : X → X) (a : ℕ) (xs : List X) → ((x : X) → key (f x) ≡ key x) → IsAbove key a xs → IsAbove key a (map f xs)
above_map key f a [] same up = tt
above_map key f a (x ∷ xs) same up = (omega (arith, up.0, same x), above_map key f a xs same up.1)

pub ordered_map : {X : Type 0} (key : X → ℕ) (f : X → X) (xs : List X) → ((x : X) → key (f x) ≡ key x) → IsInOrder key xs → IsInOrder key (map f xs)
ordered_map key f [] same up = tt
ordered_map key f (x ∷ xs) same up = (rw (same x) (above_map key f (key x) xs same up.0), ordered_map key f xs same up.1)

above_more : {X : Type 0} (key : X → ℕ) (a b : ℕ) (xs : List X) → a < b → IsAbove key b xs → IsAbove key a xs
above_more key a b [] less up = tt
above_more key a b (x ∷ xs) less up = (omega (arith, up.0), above_more key a b xs less up.1)

-- an entry that is put into its gap
above_insert : {X : Type 0} (key : X → ℕ) (a : ℕ) (xs : List X) (k : ℕ) (x : X) → a < key x → IsAbove key a xs → k ≤ length xs → IsAbove key a (insert xs k x)
above_insert key a xs zero x less up below = (less, up)
above_insert key a [] (suc k) x less up below = absurd (omega arith)
above_insert key a (y ∷ xs) (suc k) x less up below = (up.0, above_insert key a xs k x less up.1 (omega arith))

pub ordered_insert : {X : Type 0} (key : X → ℕ) (xs : List X) (k : ℕ) (x : X) → IsInOrder key xs → IsGap key xs (key x) k → IsInOrder key (insert xs k x)
ordered_insert key [] zero x up at = (tt, tt)
ordered_insert key [] (suc k) x up at = absurd (omega (arith, at.in_range))
ordered_insert key (y ∷ xs) zero x up at =
    let less : key x < key y = at.greater 0 y (omega arith) (omega arith) in
    ((less, above_more key (key x) (key y) xs less up.0), up)
ordered_insert key (y ∷ xs) (suc k) x up at =
    let less : key y < key x = at.lesser 0 y (omega arith) in
    (above_insert key (key y) xs k x less up.0 (omega (arith, at.in_range)), ordered_insert key xs k x up.1 (next_gap key y xs (key x) k at))

-- an entry of the same number in place of one
above_set : {X : Type 0} (key : X → ℕ) (a : ℕ) (xs : List X) (k : ℕ) (x : X) → a < key x → IsAbove key a xs → IsAbove key a (set xs k x)
above_set key a [] k x less up = tt
above_set key a (y ∷ xs) zero x less up = (less, up.1)
above_set key a (y ∷ xs) (suc k) x less up = (up.0, above_set key a xs k x less up.1)

pub ordered_set : {X : Type 0} (key : X → ℕ) (xs : List X) (k : ℕ) (x : X) → IsInOrder key xs → IsPlace key xs (key x) k → IsInOrder key (set xs k x)
ordered_set key [] k x up at = tt
ordered_set key (y ∷ xs) zero x up at = let same : key y ≡ key x = at.same y in (rw (← same) up.0, up.1)
ordered_set key (y ∷ xs) (suc k) x up at =
    let less : key y < key x = at.lesser 0 y (omega arith) in
    (above_set key (key y) xs k x less up.0, ordered_set key xs k x up.1 (next_place key y xs (key x) k at))

-- an entry that is changed and keeps its number
pub ordered_change : {X : Type 0} (key : X → ℕ) (xs : List X) (a k : ℕ) (x : X) → IsInOrder key xs → IsPlace key xs a k → key x ≡ a → IsInOrder key (set xs k x)
ordered_change key xs a k x up at e = ordered_set key xs k x up (rw e at)

-- a list that was lent whole and came back
pub whole_again : {X : Type 0} (xs ys : List X) (n : ℕ) → length xs ≡ length ys → n ≡ length ys → take n (xs ++ drop (length xs) ys) ≡ xs
whole_again xs ys n same_length long = take_at xs (drop (length xs) ys) n (same_length ∙ sym long)

-- an entry that is there is found
present : {X : Type 0} (xs : List X) (k : ℕ) → k < length xs → slice_get xs k ≡ None → ⊥
present [] k below e = absurd (omega arith)
present (x ∷ xs) zero below e = cc
present (x ∷ xs) (suc k) below e = present xs k (omega arith) e

pub place_is_found : {X : Type 0} (key : X → ℕ) (xs : List X) (a k : ℕ) → IsPlace key xs a k → find (λ x. key x == a) xs ≡ None → ⊥
place_is_found key xs a k at none = present xs k at.in_range (sym (find_place key xs a k at) ∙ none)

-- what holds of both that an edit may leave holds of what it left
pub either : {X A E : Type 0} (P : X → Type 0) (r : Result A E) (x new old : X) → OnOk r (x ≡ new) → OnErr r (x ≡ old) → P new → P old → P x
either P (Ok v) x new old ok err n o = subst P (sym ok) n
either P (Err e) x new old ok err n o = subst P (sym err) o

pub on_ok : {X A E : Type 0} (r : Result A E) (x a b : X) → a ≡ b → OnOk r (x ≡ a) → OnOk r (x ≡ b)
on_ok (Ok v) x a b e h = h ∙ e
on_ok (Err v) x a b e h = tt
