-- Values under names: what a binary search finds, and what an edit leaves.
use Rattle.std.proofs.Common.{◌≡◌, ℕ, zero, suc, ◌<◌, ◌≤◌, ◌+◌, is_some, true, false, ◌||◌, if◌then◌else◌, List, [], ◌∷◌, length, map, get_or, HoldsAt, Some, None, Ok, Err, Equal, nat_cmp, is_eq, insert, remove, bytes_eq, refl, sym, ap, ◌∙◌, inl, inr, arith, true≢false}
use Rattle.std.specs.Cmp.Lexicographic.{slice_cmp, texts_ties}
use Rattle.std.specs.List.{position_from}
use Rattle.std.specs.Option.{option_map}
use Rattle.std.specs.List.Sorted.{IsBinarySearchResult}
use Rattle.std.proofs.lemmas.Bool.{cases_Bool}
use Rattle.std.proofs.lemmas.List.Edits.{length-insert, length-remove}
use Rattle.ng_base.proofs.NameLemmas.{differs_back, is_same, same_name}
use Rattle.ng_base.proofs.NameIndexLemmas.{has_searched, more_inserted, ordered_between, ordered_remove}
use Rattle.ng_base.specs.Names.{has_name}
use Rattle.ng_plan.proofs.lookup.Naming.{at_place, place_any, place_within}
use Rattle.ng_plan.specs.lookup.NameMap.{AreDistinct, IsMap, value_under}

-- ---- what is found

has_at : (names : List (List ℕ)) (at : ℕ) (d : List ℕ) → at < length names → has_name names (get_or names at d) ≡ true
has_at [] at d below = absurd (omega arith)
has_at (name ∷ names) zero d below = rw (same_name name) refl
has_at (name ∷ names) (suc at) d below = elim (cases_Bool (bytes_eq name (get_or names at d))) [
  | inl is ↦ rw is refl
  | inr other ↦ rw other (has_at names at d (omega arith))
]

under_at : {V : Type 0} (names : List (List ℕ)) (values : List V) (at : ℕ) (name : List ℕ) (value : V) → AreDistinct names → length names ≡ length values
    → at < length names → get_or names at [] ≡ name → value ≡ get_or values at value → value_under names values name ≡ Some value
under_at [] values at name value distinct long below is that = absurd (omega arith)
under_at (first ∷ names) [] at name value distinct long below is that = absurd (omega arith)
under_at (first ∷ names) (one ∷ values) zero name value distinct long below is that =
    let same : bytes_eq first name ≡ true = ap (λ (n : List ℕ). bytes_eq first n) (sym is) ∙ same_name first in
    rw same (ap Some (sym that))
under_at (first ∷ names) (one ∷ values) (suc at) name value distinct long below is that = elim (cases_Bool (bytes_eq first name)) [
  | inl same ↦
      let e : get_or names at [] ≡ first = is ∙ sym (is_same first name same) in
      let there : has_name names first ≡ true = ap (has_name names) (sym e) ∙ has_at names at [] (omega arith) in
      absurd (true≢false (sym there ∙ distinct.0))
  | inr other ↦ rw other (under_at names values at name value distinct.1 (omega arith) (omega arith) is that)
]

pub under_absent : {V : Type 0} (names : List (List ℕ)) (values : List V) (name : List ℕ) → has_name names name ≡ false → value_under names values name ≡ None
under_absent [] values name lacks = refl
under_absent (first ∷ names) [] name lacks = refl
under_absent (first ∷ names) (value ∷ values) name lacks = elim (cases_Bool (bytes_eq first name)) [
  | inl is ↦ let contrary : true ≡ false = rw is at lacks in absurd (true≢false contrary)
  | inr other ↦ rw other (under_absent names values name (rw other at lacks))
]

-- where the search finds a place, its value is the name's
pub searched_at : {V : Type 0} (names : List (List ℕ)) (values : List V) (at : ℕ) (name : List ℕ) (value : V) → IsMap names values → at < length names
    → HoldsAt (λ other. slice_cmp nat_cmp other name ≡ Equal) names at → value ≡ get_or values at value → value_under names values name ≡ Some value
searched_at names values at name value map below equal that =
    under_at names values at name value map.distinct map.long below (is_same (get_or names at []) name (texts_ties (get_or names at []) name ∙ ap is_eq (equal []))) that

-- where it finds none, nothing stands under the name
pub searched_gap : {V : Type 0} (names : List (List ℕ)) (values : List V) (at : ℕ) (name : List ℕ) → IsMap names values → at ≤ length names
    → IsBinarySearchResult (λ other. slice_cmp nat_cmp other name) names (Err at) → has_name names name ≡ false
searched_gap names values at name map within parted = sym (has_searched names name (Err at) map.in_order within parted)

-- where the first of the names stands that is the same, its value is the name's
pub placed_at : {V : Type 0} (names : List (List ℕ)) (values : List V) (at : ℕ) (name : List ℕ) (value : V) → IsMap names values
    → position_from (λ other. bytes_eq other name) 0 names ≡ Some at → value ≡ get_or values at value → value_under names values name ≡ Some value
placed_at names values at name value map found that =
    let p = at_place (λ (other : List ℕ). bytes_eq other name) 0 names at found in
    let equal : at ≡ 0 + p.0 = p.1 in
    let same : at ≡ p.0 = omega arith in
    under_at names values (p.0) name value map.distinct map.long (p.2) (is_same (get_or names (p.0) []) name (p.4 [])) (that ∙ ap (λ (k : ℕ). get_or values k value) same)

-- the place is one of a value
pub placed_below : {V : Type 0} (names : List (List ℕ)) (values : List V) (at : ℕ) (name : List ℕ) → IsMap names values
    → position_from (λ other. bytes_eq other name) 0 names ≡ Some at → at < length values
placed_below names values at name map found =
    let below = place_within (λ (other : List ℕ). bytes_eq other name) names at found in
    let long = map.long in
    omega arith

-- where none is the same, nothing stands under the name
pub placed_nowhere : {V : Type 0} (names : List (List ℕ)) (values : List V) (name : List ℕ)
    → position_from (λ other. bytes_eq other name) 0 names ≡ None → value_under names values name ≡ None
placed_nowhere names values name none =
    under_absent names values name (sym (place_any (λ (other : List ℕ). bytes_eq other name) 0 names) ∙ ap is_some none)

-- a name that is there has a value
has_value : {V : Type 0} (names : List (List ℕ)) (values : List V) (name : List ℕ) → length names ≡ length values → has_name names name ≡ true
    → value_under names values name ≡ None → ⊥
has_value [] values name long there none = true≢false (sym there)
has_value (first ∷ names) [] name long there none = omega arith
has_value (first ∷ names) (value ∷ values) name long there none = elim (cases_Bool (bytes_eq first name)) [
  | inl is ↦ let contrary : Some value ≡ None = rw is at none in cc contrary
  | inr other ↦ has_value names values name (omega arith) (rw other at there) (rw other at none)
]

-- where nothing stands under the name the search finds no place
pub searched_none : {V : Type 0} (names : List (List ℕ)) (values : List V) (at : ℕ) (name : List ℕ) → IsMap names values → at < length names
    → IsBinarySearchResult (λ other. slice_cmp nat_cmp other name) names (Ok at) → value_under names values name ≡ None → ⊥
searched_none names values at name map within equal none =
    has_value names values name map.long (sym (has_searched names name (Ok at) map.in_order within equal)) none

-- what stands under a name, where each value is changed
pub under_map : {V W : Type 0} (f : V → W) (names : List (List ℕ)) (values : List V) (name : List ℕ)
    → value_under names (map f values) name ≡ option_map f (value_under names values name)
under_map f [] values name = refl
under_map f (first ∷ names) [] name = refl
under_map f (first ∷ names) (value ∷ values) name = elim (cases_Bool (bytes_eq first name)) [
  | inl is ↦ rw is refl
  | inr other ↦ rw other (under_map f names values name)
]

-- ---- a name that is put in

distinct_inserted : (names : List (List ℕ)) (at : ℕ) (name : List ℕ) → AreDistinct names → has_name names name ≡ false → AreDistinct (insert names at name)
distinct_inserted names zero name distinct lacks = (lacks, distinct)
distinct_inserted [] (suc at) name distinct lacks = (refl, tt)
distinct_inserted (first ∷ names) (suc at) name distinct lacks = elim (cases_Bool (bytes_eq first name)) [
  | inl is ↦ let contrary : true ≡ false = rw is at lacks in absurd (true≢false contrary)
  | inr other ↦
      let apart : bytes_eq name first ≡ false = differs_back first name other in (
        more_inserted names at name first ∙ ap (λ b. b || has_name names first) apart ∙ distinct.0,
        distinct_inserted names at name distinct.1 (rw other at lacks),
      )
]

put_under : {V : Type 0} (names : List (List ℕ)) (values : List V) (at : ℕ) (name : List ℕ) (value : V) (other : List ℕ) → length names ≡ length values
    → at ≤ length names → has_name names name ≡ false
    → value_under (insert names at name) (insert values at value) other ≡ (if bytes_eq name other then Some value else value_under names values other)
put_under names values zero name value other long within lacks = refl
put_under [] values (suc at) name value other long within lacks = absurd (omega arith)
put_under (first ∷ names) [] (suc at) name value other long within lacks = absurd (omega arith)
put_under (first ∷ names) (one ∷ values) (suc at) name value other long within lacks = elim (cases_Bool (bytes_eq first name)) [
  | inl is ↦ let contrary : true ≡ false = rw is at lacks in absurd (true≢false contrary)
  | inr apart ↦ elim (cases_Bool (bytes_eq first other)) [
    | inl same ↦
        let differs : bytes_eq name other ≡ false = ap (λ (n : List ℕ). bytes_eq name n) (sym (is_same first other same)) ∙ differs_back first name apart in
        rw (same, differs) refl
    | inr differs ↦ rw differs (put_under names values at name value other (omega arith) (omega arith) (rw apart at lacks))
  ]
]

pub map_inserted : {V : Type 0} (names : List (List ℕ)) (values : List V) (at : ℕ) (name : List ℕ) (value : V) → IsMap names values → at ≤ length names
    → IsBinarySearchResult (λ other. slice_cmp nat_cmp other name) names (Err at) → IsMap (insert names at name) (insert values at value)
map_inserted names values at name value map within parted =
    let also : at ≤ length values = omega (arith, map.long, within) in
    record {
      in_order = ordered_between names at name map.in_order within parted;
      distinct = distinct_inserted names at name map.distinct (searched_gap names values at name map within parted);
      long = omega (arith, map.long, length-insert names at name within, length-insert values at value also);
    }

pub under_inserted : {V : Type 0} (names : List (List ℕ)) (values : List V) (at : ℕ) (name : List ℕ) (value : V) (other : List ℕ) → IsMap names values
    → at ≤ length names → IsBinarySearchResult (λ other. slice_cmp nat_cmp other name) names (Err at)
    → value_under (insert names at name) (insert values at value) other ≡ (if bytes_eq name other then Some value else value_under names values other)
under_inserted names values at name value other map within parted =
    put_under names values at name value other map.long within (searched_gap names values at name map within parted)

-- ---- a name that is taken out

lacks_removed : (names : List (List ℕ)) (at : ℕ) (name : List ℕ) → has_name names name ≡ false → has_name (remove names at) name ≡ false
lacks_removed [] zero name lacks = refl
lacks_removed [] (suc at) name lacks = refl
lacks_removed (first ∷ names) zero name lacks = elim (cases_Bool (bytes_eq first name)) [
  | inl is ↦ let contrary : true ≡ false = rw is at lacks in absurd (true≢false contrary)
  | inr other ↦ rw other at lacks
]
lacks_removed (first ∷ names) (suc at) name lacks = elim (cases_Bool (bytes_eq first name)) [
  | inl is ↦ let contrary : true ≡ false = rw is at lacks in absurd (true≢false contrary)
  | inr other ↦ rw other (lacks_removed names at name (rw other at lacks))
]

distinct_removed : (names : List (List ℕ)) (at : ℕ) → AreDistinct names → AreDistinct (remove names at)
distinct_removed [] zero distinct = tt
distinct_removed [] (suc at) distinct = tt
distinct_removed (first ∷ names) zero distinct = distinct.1
distinct_removed (first ∷ names) (suc at) distinct = (lacks_removed names at first distinct.0, distinct_removed names at distinct.1)

left_under : {V : Type 0} (names : List (List ℕ)) (values : List V) (at : ℕ) (name other : List ℕ) → AreDistinct names → length names ≡ length values
    → at < length names → get_or names at [] ≡ name
    → value_under (remove names at) (remove values at) other ≡ (if bytes_eq name other then None else value_under names values other)
left_under [] values at name other distinct long below is = absurd (omega arith)
left_under (first ∷ names) [] at name other distinct long below is = absurd (omega arith)
left_under (first ∷ names) (one ∷ values) zero name other distinct long below is = elim (cases_Bool (bytes_eq name other)) [
  | inl same ↦
      let e : first ≡ other = is ∙ is_same name other same in
      rw same (under_absent names values other (ap (has_name names) (sym e) ∙ distinct.0))
  | inr differs ↦
      let apart : bytes_eq first other ≡ false = ap (λ (n : List ℕ). bytes_eq n other) is ∙ differs in
      rw (differs, apart) refl
]
left_under (first ∷ names) (one ∷ values) (suc at) name other distinct long below is = elim (cases_Bool (bytes_eq first other)) [
  | inl same ↦ elim (cases_Bool (bytes_eq name other)) [
    | inl also ↦
        let e : get_or names at [] ≡ first = is ∙ is_same name other also ∙ sym (is_same first other same) in
        let there : has_name names first ≡ true = ap (has_name names) (sym e) ∙ has_at names at [] (omega arith) in
        absurd (true≢false (sym there ∙ distinct.0))
    | inr differs ↦ rw (same, differs) refl
  ]
  | inr apart ↦ rw apart (left_under names values at name other distinct.1 (omega arith) (omega arith) is)
]

pub map_removed : {V : Type 0} (names : List (List ℕ)) (values : List V) (at : ℕ) → IsMap names values → at < length names → IsMap (remove names at) (remove values at)
map_removed names values at map below =
    let also : at < length values = omega (arith, map.long, below) in
    record {
      in_order = ordered_remove names at map.in_order below;
      distinct = distinct_removed names at map.distinct;
      long = omega (arith, map.long, length-remove names at below, length-remove values at also);
    }

pub under_removed : {V : Type 0} (names : List (List ℕ)) (values : List V) (at : ℕ) (name other : List ℕ) → IsMap names values → at < length names
    → HoldsAt (λ other. slice_cmp nat_cmp other name ≡ Equal) names at
    → value_under (remove names at) (remove values at) other ≡ (if bytes_eq name other then None else value_under names values other)
under_removed names values at name other map below equal =
    left_under names values at name other map.distinct map.long below (is_same (get_or names at []) name (texts_ties (get_or names at []) name ∙ ap is_eq (equal [])))

-- a name that isn't there leaves the others by being left out
pub under_left : {V : Type 0} (names : List (List ℕ)) (values : List V) (name other : List ℕ) → has_name names name ≡ false
    → value_under names values other ≡ (if bytes_eq name other then None else value_under names values other)
under_left names values name other lacks = elim (cases_Bool (bytes_eq name other)) [
  | inl same ↦ rw same (under_absent names values other (ap (has_name names) (sym (is_same name other same)) ∙ lacks))
  | inr differs ↦ rw differs refl
]
