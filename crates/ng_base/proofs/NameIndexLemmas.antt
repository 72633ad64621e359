-- Names in order: what a binary search finds, and what an edit keeps.
use Rattle.std.proofs.Common.{◌≡◌, ℕ, zero, suc, ◌+◌, ◌-◌, ◌<◌, ◌≤◌, ltb, Bool, true, false, ◌||◌, List, [], ◌∷◌, length, get_or, AllPairs, HoldsAt, Result, Ok, Err, is_ok, Equal, nat_cmp, is_lt, is_eq, insert, remove, bytes_eq, refl, sym, ap, ap₂, ◌∙◌, inl, inr, arith, zero-le, ltb-true, ltb-false}
use Rattle.std.specs.Cmp.Lexicographic.{slice_cmp, texts_ties}
use Rattle.std.specs.List.{list_any}
use Rattle.std.specs.List.Sorted.{IsSearchInRange, IsBinarySearchResult, IsNonDecreasingBy}
use Rattle.std.specs.Ordering.{ordering_index, ordering_reverse}
use Rattle.std.proofs.lemmas.Bool.{cases_Bool, cases_order}
use Rattle.std.proofs.lemmas.Cmp.{nat_list_cmp_total}
use Rattle.std.proofs.lemmas.List.Edits.{length-insert, get_or-insert_below, get_or-insert_at, get_or-insert_above}
use Rattle.std.proofs.lemmas.List.Quantifiers.{all_pairs_remove}
use Rattle.std.proofs.lemmas.List.Sorted.{ranks_by, searchable_from_sorted, sorted_far}
use Rattle.ng_base.specs.NameIndex.{IsInOrder}
use Rattle.ng_base.specs.Names.{has_name}

-- ---- what one test finds in a list

any_at : {X : Type 0} (test : X → Bool) (xs : List X) (k : ℕ) (d : X) → k < length xs → test (get_or xs k d) ≡ true → list_any test xs ≡ true
any_at test [] k d below e = absurd (omega arith)
any_at test (x ∷ xs) zero d below e = let is : test x ≡ true = e in rw is refl
any_at test (x ∷ xs) (suc k) d below e = elim (cases_Bool (test x)) [
  | inl is ↦ rw is refl
  | inr fails ↦ rw fails (any_at test xs k d (omega arith) e)
]

none_anywhere : {X : Type 0} (test : X → Bool) (xs : List X) → ((k : ℕ) (d : X) → k < length xs → test (get_or xs k d) ≡ false)
    → list_any test xs ≡ false
none_anywhere test [] none = refl
none_anywhere test (x ∷ xs) none =
    let fails : test x ≡ false = none 0 x (omega arith) in
    rw fails (none_anywhere test xs (λ k d below. none (suc k) d (omega arith)))

either_first : (a b c : Bool) → (a || (b || c)) ≡ (b || (a || c))
either_first true true c = refl
either_first true false c = refl
either_first false b c = refl

any_inserted : {X : Type 0} (test : X → Bool) (xs : List X) (at : ℕ) (x : X) → list_any test (insert xs at x) ≡ (test x || list_any test xs)
any_inserted test xs zero x = refl
any_inserted test [] (suc at) x = refl
any_inserted test (y ∷ xs) (suc at) x = ap (λ b. test y || b) (any_inserted test xs at x) ∙ either_first (test y) (test x) (list_any test xs)

-- ---- what a binary search finds

comparisons_rise : (names : List (List ℕ)) (name : List ℕ) → IsInOrder names
    → IsNonDecreasingBy (λ other. ordering_index (slice_cmp nat_cmp other name)) names
comparisons_rise names name up = searchable_from_sorted nat_list_cmp_total (λ other. other) names name up

differs_everywhere : (names : List (List ℕ)) (name : List ℕ) (at : ℕ) → IsInOrder names
    → IsBinarySearchResult (λ other. slice_cmp nat_cmp other name) names (Err at)
    → (k : ℕ) (d : List ℕ) → k < length names → is_eq (slice_cmp nat_cmp (get_or names k d) name) ≡ false
differs_everywhere names name at up parted k d below =
    let parts = parted (comparisons_rise names name up) in
    elim (cases_Bool (ltb k at)) [
      | inl before ↦ ap is_eq (parts.0 k d (omega arith) (ltb-true k at before))
      | inr behind ↦ ap is_eq (parts.1 k d (ltb-false k at behind) below)
    ]

pub has_searched : (names : List (List ℕ)) (name : List ℕ) (r : Result ℕ ℕ) → IsInOrder names → IsSearchInRange r (length names)
    → IsBinarySearchResult (λ other. slice_cmp nat_cmp other name) names r → is_ok r ≡ has_name names name
has_searched names name (Ok at) up within found =
    sym (any_at (λ other. bytes_eq other name) names at [] within (texts_ties (get_or names at []) name ∙ ap is_eq (found [])))
has_searched names name (Err at) up within parted =
    let apart = differs_everywhere names name at up parted in
    let differs = λ (k : ℕ) (d : List ℕ) (below : k < length names). texts_ties (get_or names k d) name ∙ apart k d below in
    sym (none_anywhere (λ other. bytes_eq other name) names differs)

-- ---- a name that is put in

-- the first is below the second
abbrev is_below : List ℕ → List ℕ → Bool
is_below a b = is_lt (slice_cmp nat_cmp a b)

ordered_insert : (names : List (List ℕ)) (at : ℕ) (name : List ℕ) → IsInOrder names → at ≤ length names
    → ((k : ℕ) (d : List ℕ) → k + 1 ≡ at → is_below name (get_or names k d) ≡ false)
    → ((k : ℕ) (d : List ℕ) → k ≡ at → k < length names → is_below (get_or names k d) name ≡ false)
    → IsInOrder (insert names at name)
ordered_insert names at name up within before behind k d low below =
    let long : length (insert names at name) ≡ length names + 1 = length-insert names at name within in
    let first = λ (j : ℕ) (less : j < at). get_or-insert_below names at name d j less within in
    let here = λ (j : ℕ) (same : j ≡ at). ap (λ (n : ℕ). get_or (insert names at name) n d) same ∙ get_or-insert_at names at name d within in
    let last = λ (j : ℕ) (more : at ≤ j). get_or-insert_above names at name d j more within in
    elim (cases_order (k + 1) at) [
      | inl same ↦ ap₂ is_below (here (k + 1) same) (first k (omega arith)) ∙ before k d same
      | inr (inl less) ↦ ap₂ is_below (first (k + 1) less) (first k (omega arith)) ∙ up k d low (omega arith)
      | inr (inr more) ↦ elim (cases_order k at) [
        | inl same ↦ ap₂ is_below (last k (omega arith)) (here k same) ∙ behind k d same (omega arith)
        | inr (inl less) ↦ absurd (omega arith)
        | inr (inr far) ↦
            let e : k - 1 + 1 ≡ k = omega arith in
            let later = last k (omega arith) ∙ ap (λ (n : ℕ). get_or names n d) (sym e) in
            let sooner = ap (λ (n : ℕ). get_or (insert names at name) n d) (sym e) ∙ last (k - 1) (omega arith) in
            ap₂ is_below later sooner ∙ up (k - 1) d zero-le (omega arith)
      ]
    ]

pub ordered_beside : (names : List (List ℕ)) (at : ℕ) (name : List ℕ) → IsInOrder names → at < length names
    → HoldsAt (λ other. slice_cmp nat_cmp other name ≡ Equal) names at → IsInOrder (insert names at name)
ordered_beside names at name up within equal =
    let before : (k : ℕ) (d : List ℕ) → k + 1 ≡ at → is_below name (get_or names k d) ≡ false
    = λ k d next.
    ap is_lt (sym (nat_list_cmp_total.congr (get_or names at d) name (get_or names k d) (equal d)))
    ∙ ap (λ (n : ℕ). is_below (get_or names n d) (get_or names k d)) (sym next)
    ∙ up k d (omega arith) (omega arith) in
    let behind : (k : ℕ) (d : List ℕ) → k ≡ at → k < length names → is_below (get_or names k d) name ≡ false
    = λ k d same below. ap (λ (n : ℕ). is_below (get_or names n d) name) same ∙ ap is_lt (equal d) in
    ordered_insert names at name up (omega arith) before behind

pub ordered_between : (names : List (List ℕ)) (at : ℕ) (name : List ℕ) → IsInOrder names → at ≤ length names
    → IsBinarySearchResult (λ other. slice_cmp nat_cmp other name) names (Err at) → IsInOrder (insert names at name)
ordered_between names at name up within parted =
    let parts = parted (comparisons_rise names name up) in
    let before : (k : ℕ) (d : List ℕ) → k + 1 ≡ at → is_below name (get_or names k d) ≡ false
    = λ k d next.
    ap is_lt (nat_list_cmp_total.antisymm name (get_or names k d) ∙ ap ordering_reverse (parts.0 k d (omega arith) (omega arith))) in
    let behind : (k : ℕ) (d : List ℕ) → k ≡ at → k < length names → is_below (get_or names k d) name ≡ false
    = λ k d same below. ap is_lt (parts.1 k d (omega arith) below) in
    ordered_insert names at name up within before behind

pub more_inserted : (names : List (List ℕ)) (at : ℕ) (name other : List ℕ)
    → has_name (insert names at name) other ≡ (bytes_eq name other || has_name names other)
more_inserted names at name other = any_inserted (λ one. bytes_eq one other) names at name

-- ---- a name that is taken out

pub ordered_remove : (names : List (List ℕ)) (at : ℕ) → IsInOrder names → at < length names → IsInOrder (remove names at)
ordered_remove names at up within k d low below =
    let pairs : AllPairs (λ a b. is_below b a ≡ false) names
    = λ i j e less under. sorted_far is_below (ranks_by nat_list_cmp_total (λ one. one)) names up i j e (omega arith) under in
    all_pairs_remove (λ a b. is_below b a ≡ false) names at within pairs k (k + 1) d (omega arith) below
