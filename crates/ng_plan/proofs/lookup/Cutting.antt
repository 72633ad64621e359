-- An entry that is taken out: the places of those behind it go one down.
use Rattle.std.proofs.Common.{◌≡◌, ℕ, zero, suc, ◌+◌, ◌-◌, ◌<◌, ◌≤◌, nat_lt, Bool, true, false, not, List, [], ◌∷◌, length, filter, get_or, remove, Some, None, refl, sym, ap, ◌∙◌, inl, inr, arith}
use Rattle.std.specs.List.{position_from}
use Rattle.std.specs.Option.{option_map}
use Rattle.std.specs.Str.{bytes_eq}
use Rattle.std.proofs.lemmas.Bool.{cases_Bool}
use Rattle.std.proofs.lemmas.Bool.Decides.{nat_tests}
use Rattle.ng_base.proofs.NameLemmas.{is_same}
use Rattle.ng_plan.specs.lookup.ByName.{CutsPlace, has_the_name, IsIndexed}
use Rattle.ng_plan.specs.lookup.NameMap.{Map, down_above, under}
use Rattle.ng_plan.proofs.lookup.Naming.{at_place}

-- ---- numbers that go down

pub goes_down : (above value : ℕ) → above < value → down_above above value ≡ value - 1
goes_down above value less = let test : nat_lt above value ≡ true = grind (arith, nat_tests, less) in rw test refl

pub stays : (above value : ℕ) → value ≤ above → down_above above value ≡ value
stays above value least = let test : nat_lt above value ≡ false = grind (arith, nat_tests, least) in rw test refl

-- ---- places

-- those behind one go one down, where the list begins one earlier
place_earlier : {X : Type 0} (test : X → Bool) (above i : ℕ) (xs : List X) → above ≤ i
    → position_from test i xs ≡ option_map (down_above above) (position_from test (i + 1) xs)
place_earlier test above i [] least = refl
place_earlier test above i (x ∷ xs) least = elim (cases_Bool (test x)) [
  | inl is ↦
      let less : above < i + 1 = omega arith in
      let e : i ≡ i + 1 - 1 = omega arith in
      rw is (ap Some (e ∙ sym (goes_down above (i + 1) less)))
  | inr other ↦ rw other (place_earlier test above (i + 1) xs (omega arith))
]

-- an entry that the test doesn't pass is taken out
place_cut : {X : Type 0} (test : X → Bool) (i k above : ℕ) (xs : List X) → above ≡ i + k → k < length xs → ((d : X) → test (get_or xs k d) ≡ false)
    → position_from test i (remove xs k) ≡ option_map (down_above above) (position_from test i xs)
place_cut test i k above [] is below fails = absurd (omega arith)
place_cut test i zero above (x ∷ xs) is below fails = rw (fails x) (place_earlier test above i xs (omega arith))
place_cut test i (suc k) above (x ∷ xs) is below fails = elim (cases_Bool (test x)) [
  | inl here ↦ rw here (ap Some (sym (stays above i (omega arith))))
  | inr other ↦ rw other (place_cut test (i + 1) k above xs (omega arith) (omega arith) fails)
]

-- none of those that are kept where the test fails passes it
place_kept : {X : Type 0} (test : X → Bool) (i : ℕ) (xs : List X) → position_from test i (filter (λ x. not (test x)) xs) ≡ None
place_kept test i [] = refl
place_kept test i (x ∷ xs) = elim (cases_Bool (test x)) [
  | inl is ↦ rw is (place_kept test i xs)
  | inr other ↦ rw other (rw other (place_kept test (i + 1) xs))
]

-- ---- the entry is the only one of its name

pub kept_most : {X : Type 0} (test : X → Bool) (xs : List X) → length (filter test xs) ≤ length xs
kept_most test [] = omega arith
kept_most test (x ∷ xs) = let rest = kept_most test xs in elim (cases_Bool (test x)) [
  | inl is ↦ rw is (omega arith)
  | inr other ↦ rw other (omega arith)
]

kept_all : {X : Type 0} (test : X → Bool) (xs : List X) → length xs ≤ length (filter test xs) → filter test xs ≡ xs
kept_all test [] all = refl
kept_all test (x ∷ xs) all = elim (cases_Bool (test x)) [
  | inl is ↦
      let rest : suc (length xs) ≤ suc (length (filter test xs)) = rw is at all in
      rw is (ap (λ ys. x ∷ ys) (kept_all test xs (omega arith)))
  | inr other ↦
      let more : suc (length xs) ≤ length (filter test xs) = rw other at all in
      let most = kept_most test xs in
      absurd (omega arith)
]

-- where one alone isn't kept it is the first that the test passes
lone_at : {X : Type 0} (test : X → Bool) (i k place : ℕ) (xs : List X) → position_from test i xs ≡ Some place → place ≡ i + k
    → length xs ≤ length (filter (λ x. not (test x)) xs) + 1 → remove xs k ≡ filter (λ x. not (test x)) xs
lone_at test i k place [] at is few = absurd (cc at)
lone_at test i zero place (x ∷ xs) at is few = elim (cases_Bool (test x)) [
  | inl here ↦
      let fewer : suc (length xs) ≤ length (filter (λ y. not (test y)) xs) + 1 = rw here at few in
      rw here (sym (kept_all (λ y. not (test y)) xs (omega arith)))
  | inr other ↦
      let rest = at_place test (i + 1) xs place (rw other at at) in
      let equal : place ≡ i + 1 + rest.0 = rest.1 in
      absurd (omega arith)
]
lone_at test i (suc k) place (x ∷ xs) at is few = elim (cases_Bool (test x)) [
  | inl here ↦
      let same : Some i ≡ Some place = rw here at at in
      let equal : i ≡ place = cc in
      absurd (omega arith)
  | inr other ↦
      let fewer : suc (length xs) ≤ suc (length (filter (λ y. not (test y)) xs)) + 1 = rw other at few in
      rw other (ap (λ ys. x ∷ ys) (lone_at test (i + 1) k place xs (rw other at at) (omega arith) (omega arith)))
]

pub lone : {X : Type 0} (test : X → Bool) (place : ℕ) (xs : List X) → position_from test 0 xs ≡ Some place
    → length xs ≤ length (filter (λ x. not (test x)) xs) + 1 → remove xs place ≡ filter (λ x. not (test x)) xs
lone test place xs at few = lone_at test 0 place place xs at (omega arith) few

-- where the test passes none all are kept
pub kept_none : {X : Type 0} (test : X → Bool) (i : ℕ) (xs : List X) → position_from test i xs ≡ None → filter (λ x. not (test x)) xs ≡ xs
kept_none test i [] none = refl
kept_none test i (x ∷ xs) none = elim (cases_Bool (test x)) [
  | inl is ↦ let contrary : Some i ≡ None = rw is at none in absurd (cc contrary)
  | inr other ↦ rw other (ap (λ ys. x ∷ ys) (kept_none test (i + 1) xs (rw other at none)))
]

-- ---- the places of the entries that are kept

pub indexed_cut : {X : Type 0} (name_of : X → List ℕ) (xs : List X) (place : ℕ) (name : List ℕ) (m n : Map ℕ) → IsIndexed name_of xs m → under m name ≡ Some place
    → remove xs place ≡ filter (λ x. not (has_the_name name_of name x)) xs → CutsPlace m name place n → IsIndexed name_of (filter (λ x. not (has_the_name name_of name x)) xs) n
indexed_cut name_of xs place name m n indexed at same cuts = λ other. cuts other ∙ elim (cases_Bool (bytes_eq name other)) [
  | inl is ↦
      rw is (sym (
      ap (λ (n : List ℕ). position_from (has_the_name name_of n) 0 (filter (λ x. not (has_the_name name_of name x)) xs)) (sym (is_same name other is))
      ∙ place_kept (has_the_name name_of name) 0 xs))
  | inr apart ↦
      let found = at_place (has_the_name name_of name) 0 xs place (sym (indexed name) ∙ at) in
      let equal : place ≡ 0 + found.0 = found.1 in
      let e : found.0 ≡ place = omega arith in
      let below : found.0 < length xs = found.2 in
      let fails : (d : _) → has_the_name name_of other (get_or xs place d) ≡ false = λ d.
      ap (λ (n : List ℕ). bytes_eq n other) (is_same (name_of (get_or xs place d)) name (ap (λ k. has_the_name name_of name (get_or xs k d)) (sym e) ∙ found.4 d)) ∙ apart in
      rw apart (
      ap (option_map (down_above place)) (indexed other)
      ∙ sym (place_cut (has_the_name name_of other) 0 place place xs (omega arith) (omega arith) fails)
      ∙ ap (position_from (has_the_name name_of other) 0) same)
]
