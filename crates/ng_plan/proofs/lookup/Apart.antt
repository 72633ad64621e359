-- Filters in order of their numbers, no two of one hook: a hook's filter is taken out by its number.
use Rattle.std.proofs.Common.{◌≡◌, ◌<◌, ℕ, zero, suc, ◌+◌, ◌==◌, Bool, true, false, not, if◌then◌else◌, List, [], ◌∷◌, length, get_or, filter, find, remove, Option, Some, None, Ok, Err, bytes_eq, nat_cmp, refl, sym, ap, ◌∙◌, inl, inr, arith}
use Rattle.std.specs.List.Sorted.{IsSearchInRange, IsBinarySearchResult}
use Rattle.std.specs.Option.{option_map}
use Rattle.std.proofs.lemmas.Bool.{cases_Bool, eq-eqb}
use Rattle.std.proofs.lemmas.Bool.Decides.{nat_tests}
use Rattle.std.proofs.lemmas.Cmp.{ranked}
use Rattle.ng_base.proofs.NameLemmas.{is_same}
use Rattle.ng_machine.specs.declared.plan.VlanWay.{VlanWay}
use Rattle.ng_machine.specs.kinds.Vlan.{filter_of_hook, is_filter_of, without_filters_of}
use Rattle.ng_plan.proofs.lookup.HookNumbers.{found_left, place_of}
use Rattle.ng_plan.proofs.lookup.Searching.{ascends_far, searched_gap}
use Rattle.ng_plan.specs.lookup.Filters.{AreApart, AreNumbersOf, IsByNumber, without_number}
use Rattle.ng_plan.specs.lookup.NameMap.{Map, under}

-- the filters behind the first are in order
rest_ascends : (f : VlanWay) (filters : List VlanWay) → IsByNumber (f ∷ filters) → IsByNumber filters
rest_ascends f filters up k d low = ascends_far (λ (g : VlanWay). g.vlan) (f ∷ filters) (suc k) (suc (k + 1)) d up (omega arith) (omega (arith, low))

-- and have greater numbers than the first
first_is_least : (f : VlanWay) (filters : List VlanWay) (k : ℕ) (d : VlanWay) → IsByNumber (f ∷ filters) → k < length filters → f.vlan < (get_or filters k d).vlan
first_is_least f filters k d up below = ascends_far (λ (g : VlanWay). g.vlan) (f ∷ filters) 0 (suc k) d up (omega arith) (omega (arith, below))

-- where none passes, none is left out
none_out : {A : Type 0} (test : A → Bool) (xs : List A) → find test xs ≡ None → filter (λ x. not (test x)) xs ≡ xs
none_out test [] none = refl
none_out test (x ∷ xs) none = elim (cases_Bool (test x)) [
  | inl is ↦ let contrary : Some x ≡ None = rw is at none in absurd (cc contrary)
  | inr other ↦ rw other (ap (λ rest. x ∷ rest) (none_out test xs (rw other at none)))
]

-- greater numbers stay
greater_stay : (number : ℕ) (filters : List VlanWay) → ((k : ℕ) (d : VlanWay) → k < length filters → number < (get_or filters k d).vlan)
    → without_number number filters ≡ filters
greater_stay number [] more = refl
greater_stay number (f ∷ filters) more =
    let other : (f.vlan == number) ≡ false = grind (arith, nat_tests, more 0 f (omega arith)) in
    rw other (ap (λ rest. f ∷ rest) (greater_stay number filters (λ k d below. more (suc k) d (omega (arith, below)))))

removed_at : (number : ℕ) (filters : List VlanWay) (k : ℕ) → IsByNumber filters → k < length filters → ((d : VlanWay) → (get_or filters k d).vlan ≡ number)
    → remove filters k ≡ without_number number filters
removed_at number [] k up below at = absurd (omega arith)
removed_at number (f ∷ filters) zero up below at =
    let same : (f.vlan == number) ≡ true = eq-eqb f.vlan number (at f) in
    rw same (sym (greater_stay number filters (λ k d less. omega (arith, at f, first_is_least f filters k d up less))))
removed_at number (f ∷ filters) (suc k) up below at =
    let other : (f.vlan == number) ≡ false = grind (arith, nat_tests, first_is_least f filters k f up (omega arith), at f) in
    rw other (ap (λ rest. f ∷ rest) (removed_at number filters k (rest_ascends f filters up) (omega arith) at))

-- what the search by number found goes
pub searched_out : (filters : List VlanWay) (number k : ℕ) → IsByNumber filters → IsSearchInRange (Ok k) (length filters)
    → IsBinarySearchResult (λ (f : VlanWay). nat_cmp f.vlan number) filters (Ok k) → remove filters k ≡ without_number number filters
searched_out filters number k up within equal = removed_at number filters k up within (λ d. ranked _ number _ (sym (equal d)))

pub searched_nothing : (filters : List VlanWay) (number k : ℕ) → IsByNumber filters → IsSearchInRange (Err k) (length filters)
    → IsBinarySearchResult (λ (f : VlanWay). nat_cmp f.vlan number) filters (Err k) → filters ≡ without_number number filters
searched_nothing filters number k up within parted =
    sym (none_out (λ (f : VlanWay). f.vlan == number) filters (searched_gap (λ (f : VlanWay). f.vlan) filters number k up within parted))

-- the filter of a hook is that of its number
same_gone : (filters : List VlanWay) (hook : List ℕ) (f : VlanWay) → IsByNumber filters → AreApart filters → filter_of_hook hook filters ≡ Some f
    → without_number f.vlan filters ≡ without_filters_of hook filters
same_gone [] hook f up apart found = absurd (cc found)
same_gone (g ∷ filters) hook f up apart found = elim (cases_Bool (bytes_eq g.hook hook)) [
  | inl is ↦
      let this : Some g ≡ Some f = rw is at found in
      let same : g ≡ f = cc this in
      let number : g.vlan ≡ f.vlan = ap (λ (h : VlanWay). h.vlan) same in
      let equal : (g.vlan == f.vlan) ≡ true = eq-eqb g.vlan f.vlan number in
      let alone : filter_of_hook hook filters ≡ None = ap (λ (n : List ℕ). filter_of_hook n filters) (sym (is_same g.hook hook is)) ∙ apart.0 in
      rw (is, equal) (
      greater_stay f.vlan filters (λ k d less. omega (arith, number, first_is_least g filters k d up less))
      ∙ sym (none_out (is_filter_of hook) filters alone)
      )
  | inr other ↦
      let rest : filter_of_hook hook filters ≡ Some f = rw other at found in
      let place = place_of _ filters f rest in
      let at : (d : VlanWay) → get_or filters (place.0) d ≡ f = place.2 in
      let number : (get_or filters (place.0) g).vlan ≡ f.vlan = ap (λ (h : VlanWay). h.vlan) (at g) in
      let less : g.vlan < f.vlan = omega (arith, number, first_is_least g filters (place.0) g up place.1) in
      let differs : (g.vlan == f.vlan) ≡ false = grind (arith, nat_tests, less) in
      rw (other, differs) (ap (λ rest. g ∷ rest) (same_gone filters hook f (rest_ascends g filters up) apart.1 rest))
]

-- the filter of the number that stands under a hook
pub taken_out : (filters : List VlanWay) (numbers : Map ℕ) (hook : List ℕ) (number : ℕ) → IsByNumber filters → AreNumbersOf filters numbers → AreApart filters
    → Some number ≡ under numbers hook → without_number number filters ≡ without_filters_of hook filters
taken_out filters numbers hook number up are apart is = by (filter_of_hook hook filters) refl
  where
    by : (o : Option VlanWay) → filter_of_hook hook filters ≡ o → without_number number filters ≡ without_filters_of hook filters
    by None none = let contrary : Some number ≡ None = is ∙ are hook ∙ ap (option_map (λ (f : VlanWay). f.vlan)) none in absurd (cc contrary)
    by (Some f) found =
        let equal : Some number ≡ Some f.vlan = is ∙ are hook ∙ ap (option_map (λ (f : VlanWay). f.vlan)) found in
        let same : number ≡ f.vlan = cc equal in
        ap (λ n. without_number n filters) same ∙ same_gone filters hook f up apart found

-- where no number stands under a hook it has no filter
pub nothing_out : (filters : List VlanWay) (numbers : Map ℕ) (hook : List ℕ) → AreNumbersOf filters numbers → None ≡ under numbers hook
    → filters ≡ without_filters_of hook filters
nothing_out filters numbers hook are is = by (filter_of_hook hook filters) refl
  where
    by : (o : Option VlanWay) → filter_of_hook hook filters ≡ o → filters ≡ without_filters_of hook filters
    by None none = sym (none_out (is_filter_of hook) filters none)
    by (Some f) found = let contrary : None ≡ Some f.vlan = is ∙ are hook ∙ ap (option_map (λ (f : VlanWay). f.vlan)) found in absurd (cc contrary)

none_either : (gone : Bool) (o : Option VlanWay) → o ≡ None → (if gone then None else o) ≡ None
none_either true o none = refl
none_either false o none = none

-- no two that are left are of one hook
pub apart_left : (filters : List VlanWay) (hook : List ℕ) → AreApart filters → AreApart (without_filters_of hook filters)
apart_left [] hook apart = tt
apart_left (f ∷ filters) hook apart = elim (cases_Bool (bytes_eq f.hook hook)) [
  | inl gone ↦ rw gone (apart_left filters hook apart.1)
  | inr stays ↦
      let alone : filter_of_hook f.hook (without_filters_of hook filters) ≡ None
      = found_left filters hook f.hook ∙ none_either (bytes_eq hook f.hook) (filter_of_hook f.hook filters) apart.0 in
      rw stays (alone, apart_left filters hook apart.1)
]
