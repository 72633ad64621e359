-- The number of a hook's filter leads to that filter.
use Rattle.std.proofs.Common.{◌≡◌, ℕ, suc, ◌<◌, Bool, true, false, if◌then◌else◌, List, [], ◌∷◌, length, get_or, find, Option, Some, None, bytes_eq, refl, sym, ap, ◌∙◌, inl, inr, arith}
use Rattle.std.specs.Option.{option_map}
use Rattle.std.proofs.lemmas.Bool.{cases_Bool}
use Rattle.ng_base.proofs.NameLemmas.{differs_back, is_same}
use Rattle.ng_machine.specs.declared.plan.VlanWay.{VlanWay}
use Rattle.ng_machine.specs.kinds.Vlan.{filter_of_hook, filter_of_number, without_filters_of}
use Rattle.ng_plan.proofs.lookup.Searching.{ascends_far, find_at, get_at}
use Rattle.ng_plan.specs.lookup.Filters.{AreNumbersOf, IsByNumber}
use Rattle.ng_plan.specs.lookup.NameMap.{LeavesOut, Map, under}

-- where what was found stands
pub place_of : {X : Type 0} (test : X → Bool) (xs : List X) (x : X) → find test xs ≡ Some x → (k : ℕ) × (k < length xs) × ((d : X) → get_or xs k d ≡ x)
place_of test [] x found = absurd (cc found)
place_of test (y ∷ xs) x found = elim (cases_Bool (test y)) [
  | inl is ↦ let same : Some y ≡ Some x = rw is at found in (0, omega arith, λ d. cc same)
  | inr other ↦
      let rest = place_of test xs x (rw other at found) in
      let below : rest.0 < length xs = rest.1 in
      (suc (rest.0), omega arith, λ d. rest.2 d)
]

pub found_by_number : (filters : List VlanWay) (hook : List ℕ) (f : VlanWay) → IsByNumber filters → filter_of_hook hook filters ≡ Some f
    → filter_of_number f.vlan filters ≡ Some f
found_by_number filters hook f up found =
    let place = place_of _ filters f found in
    let at : (d : VlanWay) → get_or filters (place.0) d ≡ f = place.2 in
    find_at (λ (g : VlanWay). g.vlan) filters f.vlan (place.0)
    (λ j d less. omega (arith, ascends_far (λ (g : VlanWay). g.vlan) filters j (place.0) d up less place.1, ap (λ (g : VlanWay). g.vlan) (at d)))
    place.1
    (λ d. ap (λ (g : VlanWay). g.vlan) (at d))
    ∙ get_at filters (place.0) f place.1 (sym (at f))

pub led_by_number : (filters : List VlanWay) (numbers : Map ℕ) (hook : List ℕ) (number : ℕ) → IsByNumber filters → AreNumbersOf filters numbers
    → Some number ≡ under numbers hook → filter_of_number number filters ≡ filter_of_hook hook filters
led_by_number filters numbers hook number up are is = by (filter_of_hook hook filters) refl
  where
    by : (o : _) → filter_of_hook hook filters ≡ o → filter_of_number number filters ≡ filter_of_hook hook filters
    by None none = let contrary : Some number ≡ None = is ∙ are hook ∙ ap (option_map (λ (f : VlanWay). f.vlan)) none in absurd (cc contrary)
    by (Some f) found =
        let equal : Some number ≡ Some f.vlan = is ∙ are hook ∙ ap (option_map (λ (f : VlanWay). f.vlan)) found in
        let same : number ≡ f.vlan = cc equal in
        ap (λ n. filter_of_number n filters) same ∙ found_by_number filters hook f up found ∙ sym found

-- ---- without the filters of a hook

-- another hook's filter stays
pub found_left : (filters : List VlanWay) (hook other : List ℕ)
    → filter_of_hook other (without_filters_of hook filters) ≡ (if bytes_eq hook other then None else filter_of_hook other filters)
found_left [] hook other = elim (cases_Bool (bytes_eq hook other)) [ inl is ↦ rw is refl | inr apart ↦ rw apart refl ]
found_left (f ∷ filters) hook other = elim (cases_Bool (bytes_eq f.hook hook)) [
  | inl gone ↦ rw gone (found_left filters hook other ∙ elim (cases_Bool (bytes_eq hook other)) [
    | inl is ↦ rw is refl
    | inr apart ↦
        let differs : bytes_eq f.hook other ≡ false = ap (λ (n : List ℕ). bytes_eq n other) (is_same f.hook hook gone) ∙ apart in
        rw (apart, differs) refl
  ])
  | inr stays ↦ rw stays (elim (cases_Bool (bytes_eq f.hook other)) [
    | inl same ↦
        let apart : bytes_eq hook other ≡ false
        = ap (λ (n : List ℕ). bytes_eq hook n) (sym (is_same f.hook other same)) ∙ differs_back f.hook hook stays in
        rw (same, apart) refl
    | inr differs ↦ rw differs (found_left filters hook other)
  ])
]

number_of_left : (gone : Bool) (o : Option VlanWay)
    → (if gone then None else option_map (λ (f : VlanWay). f.vlan) o) ≡ option_map (λ (f : VlanWay). f.vlan) (if gone then None else o)
number_of_left true o = refl
number_of_left false o = refl

pub numbers_left : (filters : List VlanWay) (numbers fewer : Map ℕ) (hook : List ℕ) → AreNumbersOf filters numbers → LeavesOut numbers hook fewer
    → AreNumbersOf (without_filters_of hook filters) fewer
numbers_left filters numbers fewer hook are left other =
    left other
    ∙ ap (λ (o : Option ℕ). if bytes_eq hook other then None else o) (are other)
    ∙ number_of_left (bytes_eq hook other) (filter_of_hook other filters)
    ∙ ap (option_map (λ (f : VlanWay). f.vlan)) (sym (found_left filters hook other))
