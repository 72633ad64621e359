-- Numbers that rise: the place of one is how many are below it.
use Rattle.std.proofs.Common.{◌≡◌, ℕ, zero, suc, ◌+◌, ◌-◌, ◌<◌, ◌≤◌, nat_lt, true, false, List, [], ◌∷◌, length, get_or, remove, Ok, Err, nat_cmp, AllPairs, refl, sym, ap, ◌∙◌, inl, inr, arith}
use Rattle.std.specs.List.Sorted.{IsBinarySearchResult}
use Rattle.std.proofs.lemmas.Bool.{cases_lt}
use Rattle.std.proofs.lemmas.Bool.Decides.{nat_tests}
use Rattle.std.proofs.lemmas.List.Edits.{get_or-remove_above, get_or-remove_below, length-remove}
use Rattle.std.proofs.lemmas.List.Quantifiers.{all_pairs_remove}
use Rattle.std.proofs.lemmas.List.Sorted.{searched}
use Rattle.ng_plan.proofs.lookup.Cutting.{goes_down, kept_most, stays}
use Rattle.ng_plan.specs.lookup.NameMap.{down_above}
use Rattle.ng_plan.specs.lookup.Order.{AreRising, place_in}

-- ---- the place of a number

-- none is below the least of them
none_below : (xs : List ℕ) (n : ℕ) → ((k : ℕ) → k < length xs → n ≤ get_or xs k 0) → place_in xs n ≡ 0
none_below [] n least = refl
none_below (x ∷ xs) n least =
    let first : n ≤ x = least 0 (omega arith) in
    let above : nat_lt x n ≡ false = grind (arith, nat_tests, first) in
    rw above (none_below xs n (λ k less. least (suc k) (omega arith)))

-- where those before a place are below it, and the others are not
parted : (xs : List ℕ) (n at : ℕ) → at ≤ length xs → ((k : ℕ) → k < at → get_or xs k 0 < n) → ((k : ℕ) → at ≤ k → k < length xs → n ≤ get_or xs k 0)
    → place_in xs n ≡ at
parted xs n zero within lesser least = none_below xs n (λ k less. least k (omega arith) less)
parted [] n (suc at) within lesser least = absurd (omega arith)
parted (x ∷ xs) n (suc at) within lesser least =
    let first : x < n = lesser 0 (omega arith) in
    let under : nat_lt x n ≡ true = grind (arith, nat_tests, first) in
    rw under (ap suc (parted xs n at (omega arith) (λ k less. lesser (suc k) (omega arith)) (λ k far less. least (suc k) (omega arith) (omega arith))))

-- of numbers that rise the earlier is the lesser
rises : (xs : List ℕ) → AllPairs (λ a b. a < b) xs → (i j : ℕ) → i ≤ j → j < length xs → get_or xs i 0 ≤ get_or xs j 0
rises xs rising i j within below = elim (cases_lt i j) [
  | inl before ↦ omega (arith, rising i j 0 before below)
  | inr behind ↦
      let same : i ≡ j = omega arith in
      let equal : get_or xs i 0 ≡ get_or xs j 0 = ap (λ (k : ℕ). get_or xs k 0) same in
      omega (arith, equal)
]

-- a number that stands among them
pub place_standing : (xs : List ℕ) (n at : ℕ) → AllPairs (λ a b. a < b) xs → at < length xs → get_or xs at 0 ≡ n → place_in xs n ≡ at
place_standing xs n at rising below is =
    parted xs n at (omega arith)
    (λ k less. omega (arith, is, rising k at 0 less below))
    (λ k far less. omega (arith, is, rises xs rising at k far less))

-- what a search finds
pub place_found : (xs : List ℕ) (n at : ℕ) → AllPairs (λ a b. a < b) xs → IsBinarySearchResult (λ x. nat_cmp x n) xs (Ok at) → at ≡ place_in xs n
place_found xs n at rising result =
    let found = searched xs n (Ok at) result (rises xs rising) in
    sym (place_standing xs n at rising found.0 found.1)

pub place_missed : (xs : List ℕ) (n at : ℕ) → AllPairs (λ a b. a < b) xs → IsBinarySearchResult (λ x. nat_cmp x n) xs (Err at) → at ≡ place_in xs n
place_missed xs n at rising result =
    let found = searched xs n (Err at) result (rises xs rising) in
    sym (parted xs n at found.0 found.1 (λ k far less. omega (arith, found.2 k far less)))

-- ---- one that is taken out

tail_rises : (x : ℕ) (xs : List ℕ) → AllPairs (λ a b. a < b) (x ∷ xs) → AllPairs (λ a b. a < b) xs
tail_rises x xs rising i j d before below = rising (suc i) (suc j) d (omega arith) (omega arith)

-- none of those behind a number that isn't below another is below it
none_behind : (x : ℕ) (xs : List ℕ) (n : ℕ) → AllPairs (λ a b. a < b) (x ∷ xs) → n ≤ x → place_in xs n ≡ 0
none_behind x xs n rising least = none_below xs n (λ k less. omega (arith, least, rising 0 (suc k) 0 (omega arith) (omega arith)))

-- one place more, where there is one more before it
further : (at place : ℕ) → suc (down_above at place) ≡ down_above (suc at) (suc place)
further at place = elim (cases_lt at place) [
  | inl behind ↦
      let e : suc (place - 1) ≡ suc place - 1 = omega arith in
      ap suc (goes_down at place behind) ∙ e ∙ sym (goes_down (suc at) (suc place) (omega arith))
  | inr before ↦ ap suc (stays at place before) ∙ sym (stays (suc at) (suc place) (omega arith))
]

-- those behind it go one down
pub place_removed : (xs : List ℕ) (at n : ℕ) → AllPairs (λ a b. a < b) xs → place_in (remove xs at) n ≡ down_above at (place_in xs n)
place_removed [] zero n rising = refl
place_removed [] (suc at) n rising = sym (stays (suc at) 0 (omega arith))
place_removed (x ∷ xs) zero n rising = elim (cases_lt x n) [
  | inl less ↦
      let under : nat_lt x n ≡ true = grind (arith, nat_tests, less) in
      let e : place_in xs n ≡ suc (place_in xs n) - 1 = omega arith in
      rw under (e ∙ sym (goes_down 0 (suc (place_in xs n)) (omega arith)))
  | inr least ↦
      let above : nat_lt x n ≡ false = grind (arith, nat_tests, least) in
      rw (above, none_behind x xs n rising least) refl
]
place_removed (x ∷ xs) (suc at) n rising =
    let rest = place_removed xs at n (tail_rises x xs rising) in
    elim (cases_lt x n) [
      | inl less ↦
          let under : nat_lt x n ≡ true = grind (arith, nat_tests, less) in
          rw under (ap suc rest ∙ further at (place_in xs n))
      | inr least ↦
          let above : nat_lt x n ≡ false = grind (arith, nat_tests, least) in
          let none = none_behind x xs n rising least in
          rw above (
          rest
          ∙ ap (down_above at) none
          ∙ stays at 0 (omega arith)
          ∙ sym (ap (down_above (suc at)) none ∙ stays (suc at) 0 (omega arith))
          )
    ]

pub rising_removed : (xs : List ℕ) (at next : ℕ) → AreRising xs next → at < length xs → AreRising (remove xs at) next
rising_removed xs at next are within = record {
  rising = all_pairs_remove (λ a b. a < b) xs at within are.rising;
  below = λ k d less.
      let long = length-remove xs at within in
      elim (cases_lt k at) [
        | inl before ↦ rw (get_or-remove_below xs at d k before within) (are.below k d (omega arith))
        | inr behind ↦ rw (get_or-remove_above xs at d k behind within) (are.below (k + 1) d (omega (arith, long, less)))
      ];
}

-- all of them are before a place behind the last
pub place_behind : (xs : List ℕ) (at n : ℕ) → length xs ≤ at → place_in xs n ≡ down_above at (place_in xs n)
place_behind xs at n behind = sym (stays at (place_in xs n) (omega (arith, kept_most (λ m. nat_lt m n) xs, behind)))
