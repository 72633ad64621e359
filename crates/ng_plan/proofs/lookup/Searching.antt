-- What a binary search finds among entries in order of their numbers.
use Rattle.std.proofs.Common.{◌≡◌, ℕ, zero, suc, ◌<◌, ◌≤◌, ◌==◌, List, [], ◌∷◌, length, get_or, Some, None, Ok, Err, find, slice_get, refl, sym, ap, add-one, arith, inl, inr}
use Rattle.std.specs.List.Sorted.{IsSearchInRange, IsBinarySearchResult, IsNonDecreasingBy}
use Rattle.std.specs.Ordering.{nat_cmp, ordering_index}
use Rattle.std.proofs.lemmas.Cmp.{ranked}
use Rattle.std.proofs.lemmas.Bool.{cases_lt}
use Rattle.std.proofs.lemmas.Bool.Decides.{nat_tests}
use Rattle.ng_plan.specs.lookup.Table.{IsAscending}

-- of two entries the later has the greater number
pub ascends_far : {X : Type 0} (key : X → ℕ) (xs : List X) (i j : ℕ) (d : X) → IsAscending key xs → i < j → j < length xs → key (get_or xs i d) < key (get_or xs j d)
ascends_far key xs i zero d up less below = absurd (omega arith)
ascends_far key xs i (suc j) d up less below =
    let step = rw add-one at (up j d (omega arith)) in
    elim (cases_lt i j) [
      | inl before ↦ omega (arith, step, ascends_far key xs i j d up before (omega arith))
      | inr after ↦ let same : i ≡ j = omega arith in let here : key (get_or xs i d) ≡ key (get_or xs j d) = ap (λ k. key (get_or xs k d)) same in omega (arith, step, here)
    ]

-- the comparisons with a number rise along the entries
comparisons_rise : {X : Type 0} (key : X → ℕ) (xs : List X) (a : ℕ) → IsAscending key xs → IsNonDecreasingBy (λ x. ordering_index (nat_cmp (key x) a)) xs
comparisons_rise key xs a up i j d within below =
    let rise : i < j → key (get_or xs i d) < key (get_or xs j d) = λ less. ascends_far key xs i j d up less below in
    let stay : i ≡ j → key (get_or xs i d) ≡ key (get_or xs j d) = λ e. ap (λ k. key (get_or xs k d)) e in
    grind (arith, nat_tests)

-- the entries before a place have lesser numbers, and those from a place on greater ones
abbrev IsLesserBefore : {X : Type 0} → (X → ℕ) → List X → ℕ → ℕ → Type 0
IsLesserBefore {X} key xs a k = (j : ℕ) (d : X) → j < k → key (get_or xs j d) < a

abbrev IsGreaterFrom : {X : Type 0} → (X → ℕ) → List X → ℕ → ℕ → Type 0
IsGreaterFrom {X} key xs a k = (j : ℕ) (d : X) → k ≤ j → j < length xs → a < key (get_or xs j d)

pub find_at : {X : Type 0} (key : X → ℕ) (xs : List X) (a k : ℕ) → IsLesserBefore key xs a k → k < length xs → ((d : X) → key (get_or xs k d) ≡ a) → find (λ x. key x == a) xs ≡ slice_get xs k
find_at key [] a k less below at = absurd (omega arith)
find_at key (x ∷ xs) a zero less below at = grind (arith, nat_tests, at x)
find_at key (x ∷ xs) a (suc k) less below at =
    grind (arith, nat_tests, less 0 x (omega arith), find_at key xs a k (λ j d l. less (suc j) d (omega arith)) (omega arith) at)

find_gap : {X : Type 0} (key : X → ℕ) (xs : List X) (a k : ℕ) → IsLesserBefore key xs a k → IsGreaterFrom key xs a k → find (λ x. key x == a) xs ≡ None
find_gap key [] a k less more = refl
find_gap key (x ∷ xs) a zero less more =
    grind (arith, nat_tests, more 0 x (omega arith) (omega arith), find_gap key xs a 0 (λ j d l. absurd (omega arith)) (λ j d l b. more (suc j) d (omega arith) (omega arith)))
find_gap key (x ∷ xs) a (suc k) less more =
    grind (arith, nat_tests, less 0 x (omega arith), find_gap key xs a k (λ j d l. less (suc j) d (omega arith)) (λ j d l b. more (suc j) d (omega arith) (omega arith)))

-- where the search finds a place, the entry there is the first of that number
pub searched_at : {X : Type 0} (key : X → ℕ) (xs : List X) (a k : ℕ) → IsAscending key xs → IsSearchInRange (Ok k) (length xs) → IsBinarySearchResult (λ x. nat_cmp (key x) a) xs (Ok k)
    → find (λ x. key x == a) xs ≡ slice_get xs k
searched_at {X} key xs a k up in_range equal =
    let at : (d : X) → key (get_or xs k d) ≡ a = λ d. ranked _ a _ (sym (equal d)) in
    find_at key xs a k (λ j d l. omega (arith, ascends_far key xs j k d up l in_range, at d)) in_range at

-- where it finds a gap, no entry has that number
pub searched_gap : {X : Type 0} (key : X → ℕ) (xs : List X) (a k : ℕ) → IsAscending key xs → IsSearchInRange (Err k) (length xs) → IsBinarySearchResult (λ x. nat_cmp (key x) a) xs (Err k)
    → find (λ x. key x == a) xs ≡ None
searched_gap key xs a k up in_range parted =
    let parts = parted (comparisons_rise key xs a up) in
    find_gap key xs a k (λ j d l. ranked _ a _ (sym (parts.0 j d (omega arith) l))) (λ j d l b. ranked _ a _ (sym (parts.1 j d l b)))

-- what stands at a place
pub get_at : {X : Type 0} (xs : List X) (k : ℕ) (x : X) → k < length xs → x ≡ get_or xs k x → slice_get xs k ≡ Some x
get_at [] k x below e = absurd (omega arith)
get_at (y ∷ xs) zero x below e = ap Some (sym e)
get_at (y ∷ xs) (suc k) x below e = get_at xs k x (omega arith) e
