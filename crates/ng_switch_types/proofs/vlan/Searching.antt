-- What a binary search finds among filters in order of their numbers.
use Rattle.std.proofs.Common.{◌≡◌, ℕ, zero, suc, ◌<◌, ◌≤◌, ◌==◌, true, false, nat_lt, List, [], ◌∷◌, insert, length, get_or, None, Ok, Err, is_some, refl, sym, ap, arith, inl, inr}
use Rattle.std.specs.List.Sorted.{IsSearchInRange, IsBinarySearchResult, IsNonDecreasingBy}
use Rattle.std.specs.Ordering.{nat_cmp, ordering_index}
use Rattle.std.proofs.lemmas.Cmp.{ranked}
use Rattle.std.proofs.lemmas.Bool.{cases_Bool}
use Rattle.std.proofs.lemmas.Bool.Decides.{nat_tests}
use Rattle.ng_machine.specs.declared.plan.VlanWay.{VlanWay}
use Rattle.ng_machine.specs.kinds.Vlan.{filter_of_number, put_filter}
use Rattle.ng_switch_types.specs.vlan.Filters.{IsFree, IsInOrder}

pub at_least : (low : ℕ) (fs : List VlanWay) (j : ℕ) (d : VlanWay) → IsInOrder low fs → j < length fs → low ≤ (get_or fs j d).vlan
at_least low [] j d up below = absurd (omega arith)
at_least low (f ∷ fs) zero d up below = up.0
at_least low (f ∷ fs) (suc j) d up below = omega (arith, up.0, at_least (suc f.vlan) fs j d up.2 (omega arith))

-- of two filters the later has the greater number
pub ascends_far : (low : ℕ) (fs : List VlanWay) (i j : ℕ) (d : VlanWay) → IsInOrder low fs → i < j → j < length fs → (get_or fs i d).vlan < (get_or fs j d).vlan
ascends_far low [] i j d up less below = absurd (omega arith)
ascends_far low (f ∷ fs) i zero d up less below = absurd (omega arith)
ascends_far low (f ∷ fs) zero (suc j) d up less below = omega (arith, at_least (suc f.vlan) fs j d up.2 (omega arith))
ascends_far low (f ∷ fs) (suc i) (suc j) d up less below = ascends_far (suc f.vlan) fs i j d up.2 (omega arith) (omega arith)

-- the comparisons with a number rise along the filters
comparisons_rise : (fs : List VlanWay) (a : ℕ) → IsInOrder 0 fs → IsNonDecreasingBy (λ (f : VlanWay). ordering_index (nat_cmp f.vlan a)) fs
comparisons_rise fs a up i j d within below =
    let rise : i < j → (get_or fs i d).vlan < (get_or fs j d).vlan = λ less. ascends_far 0 fs i j d up less below in
    let stay : i ≡ j → (get_or fs i d).vlan ≡ (get_or fs j d).vlan = λ e. ap (λ k. (get_or fs k d).vlan) e in
    grind (arith, nat_tests)

-- the filters before a place have lesser numbers, and those from a place on greater ones
abbrev IsLesserBefore : List VlanWay → ℕ → ℕ → Type 0
IsLesserBefore fs a k = (j : ℕ) (d : VlanWay) → j < k → (get_or fs j d).vlan < a

abbrev IsGreaterFrom : List VlanWay → ℕ → ℕ → Type 0
IsGreaterFrom fs a k = (j : ℕ) (d : VlanWay) → k ≤ j → j < length fs → a < (get_or fs j d).vlan

find_at : (fs : List VlanWay) (a k : ℕ) → k < length fs → ((d : VlanWay) → (get_or fs k d).vlan ≡ a) → is_some (filter_of_number a fs) ≡ true
find_at [] a k below at = absurd (omega arith)
find_at (f ∷ fs) a zero below at = grind (arith, nat_tests, at f)
find_at (f ∷ fs) a (suc k) below at = elim (cases_Bool (f.vlan == a)) [
  | inl is ↦ rw is refl
  | inr other ↦ rw other (find_at fs a k (omega arith) at)
]

find_gap : (fs : List VlanWay) (a k : ℕ) → IsLesserBefore fs a k → IsGreaterFrom fs a k → filter_of_number a fs ≡ None
find_gap [] a k less more = refl
find_gap (f ∷ fs) a zero less more =
    grind (arith, nat_tests, more 0 f (omega arith) (omega arith), find_gap fs a 0 (λ j d l. absurd (omega arith)) (λ j d l b. more (suc j) d (omega arith) (omega arith)))
find_gap (f ∷ fs) a (suc k) less more =
    grind (arith, nat_tests, less 0 f (omega arith), find_gap fs a k (λ j d l. less (suc j) d (omega arith)) (λ j d l b. more (suc j) d (omega arith) (omega arith)))

put_gap : (g : VlanWay) (fs : List VlanWay) (k : ℕ) → IsLesserBefore fs g.vlan k → IsGreaterFrom fs g.vlan k → k ≤ length fs → put_filter g fs ≡ insert fs k g
put_gap g [] zero less more within = refl
put_gap g [] (suc k) less more within = absurd (omega arith)
put_gap g (f ∷ fs) zero less more within =
    let lt : nat_lt g.vlan f.vlan ≡ true = grind (arith, nat_tests, more 0 f (omega arith) (omega arith)) in
    rw lt refl
put_gap g (f ∷ fs) (suc k) less more within =
    let ge : nat_lt g.vlan f.vlan ≡ false = grind (arith, nat_tests, less 0 f (omega arith)) in
    rw ge (ap (λ rest. f ∷ rest) (put_gap g fs k (λ j d l. less (suc j) d (omega arith)) (λ j d l b. more (suc j) d (omega arith) (omega arith)) (omega arith)))

-- where the search finds a place, a filter has the number
pub searched_at : (fs : List VlanWay) (a k : ℕ) → IsSearchInRange (Ok k) (length fs) → IsBinarySearchResult (λ (f : VlanWay). nat_cmp f.vlan a) fs (Ok k)
    → is_some (filter_of_number a fs) ≡ true
searched_at fs a k in_range equal = find_at fs a k in_range (λ d. ranked _ a _ (sym (equal d)))

-- where it finds a gap, the number is free, and its filter goes there
pub searched_gap : (fs : List VlanWay) (g : VlanWay) (k : ℕ) → IsInOrder 0 fs → IsSearchInRange (Err k) (length fs) → IsBinarySearchResult (λ (f : VlanWay). nat_cmp f.vlan g.vlan) fs (Err k)
    → IsFree g fs k
searched_gap fs g k up in_range parted =
    let parts = parted (comparisons_rise fs g.vlan up) in
    let less : IsLesserBefore fs g.vlan k = λ j d l. ranked _ g.vlan _ (sym (parts.0 j d (omega (arith, in_range)) l)) in
    let more : IsGreaterFrom fs g.vlan k = λ j d l b. ranked _ g.vlan _ (sym (parts.1 j d l b)) in
    record { none = find_gap fs g.vlan k less more; bound = in_range; put = put_gap g fs k less more in_range }
