-- The places of entries under their names.
use Rattle.std.proofs.Common.{◌≡◌, ℕ, suc, ◌+◌, ◌<◌, Bool, true, List, [], ◌∷◌, ◌++◌, length, take, find, get_or, is_some, if◌then◌else◌, Some, None, refl, sym, ap, ◌∙◌, inl, inr, arith}
use Rattle.std.specs.List.{list_any, position_from}
use Rattle.std.specs.Option.{option_or}
use Rattle.std.specs.Str.{bytes_eq}
use Rattle.std.proofs.lemmas.Bool.{cases_Bool}
use Rattle.std.proofs.lemmas.List.{take_more, length-take}
use Rattle.ng_plan.specs.lookup.ByName.{has_the_name, IsIndexed, PutsFirst}
use Rattle.ng_plan.specs.lookup.NameMap.{Map}

-- one entry more
position-push : {X : Type 0} (test : X → Bool) (i : ℕ) (xs : List X) (x : X)
    → position_from test i (xs ++ x ∷ []) ≡ option_or (position_from test i xs) (if test x then Some (i + length xs) else None)
position-push test i [] x = ap (λ n. if test x then Some n else None) (omega arith)
position-push test i (y ∷ xs) x = elim (cases_Bool (test y)) [
  | inl is ↦ rw is refl
  | inr other ↦ rw other (position-push test (i + 1) xs x ∙ ap (λ n. option_or (position_from test (i + 1) xs) (if test x then Some n else None)) (omega arith))
]

pub indexed-push : {X : Type 0} (name_of : X → List ℕ) (xs : List X) (k : ℕ) (x : X) (m n : Map ℕ)
    → k < length xs → x ≡ get_or xs k x → IsIndexed name_of (take k xs) m → PutsFirst m n (name_of x) k → IsIndexed name_of (take (k + 1) xs) n
indexed-push name_of xs k x m n below at indexed puts = λ name.
    puts name
    ∙ ap (λ o. option_or o (if bytes_eq (name_of x) name then Some k else None)) (indexed name)
    ∙ sym (
    ap (position_from (has_the_name name_of name) 0) (take_more xs k x below ∙ ap (λ y. take k xs ++ y ∷ []) (sym at))
    ∙ position-push (has_the_name name_of name) 0 (take k xs) x
    ∙ ap (λ i. option_or (position_from (has_the_name name_of name) 0 (take k xs)) (if bytes_eq (name_of x) name then Some i else None)) (grind (arith, length-take))
    )

-- what stands at the place of a name is the first entry of that name
pub at_place : {X : Type 0} (test : X → Bool) (i : ℕ) (xs : List X) (place : ℕ) → position_from test i xs ≡ Some place
    → (k : ℕ) × (place ≡ i + k) × (k < length xs) × ((d : X) → find test xs ≡ Some (get_or xs k d)) × ((d : X) → test (get_or xs k d) ≡ true)
at_place test i [] place at = absurd (cc at)
at_place test i (x ∷ xs) place at = elim (cases_Bool (test x)) [
  | inl is ↦
      let same : Some i ≡ Some place = rw is at at in
      let equal : i ≡ place = cc in
      (0, omega arith, omega arith, λ d. rw is refl, λ d. is)
  | inr other ↦
      let rest = at_place test (i + 1) xs place (rw other at at) in
      let equal : place ≡ i + 1 + rest.0 = rest.1 in
      let below : rest.0 < length xs = rest.2 in
      (suc (rest.0), omega arith, omega arith, λ d. rw other (rest.3 d), λ d. rest.4 d)
]

pub place_within : {X : Type 0} (test : X → Bool) (xs : List X) (place : ℕ) → position_from test 0 xs ≡ Some place → place < length xs
place_within test xs place at = let p = at_place test 0 xs place at in let equal : place ≡ 0 + p.0 = p.1 in let below : p.0 < length xs = p.2 in omega arith

pub place_found : {X : Type 0} (test : X → Bool) (xs : List X) (place : ℕ) (x : X) → position_from test 0 xs ≡ Some place → x ≡ get_or xs place x → Some x ≡ find test xs
place_found test xs place x at is =
    let p = at_place test 0 xs place at in
    let equal : place ≡ 0 + p.0 = p.1 in
    let same : place ≡ p.0 = omega arith in
    ap Some (is ∙ ap (λ k. get_or xs k x) same) ∙ sym (p.3 x)

pub place_missing : {X : Type 0} (test : X → Bool) (i : ℕ) (xs : List X) → position_from test i xs ≡ None → None ≡ find test xs
place_missing test i [] at = refl
place_missing test i (x ∷ xs) at = elim (cases_Bool (test x)) [
  | inl is ↦ let same : Some i ≡ None = rw is at at in absurd (cc same)
  | inr other ↦ rw other (place_missing test (i + 1) xs (rw other at at))
]

pub place_any : {X : Type 0} (test : X → Bool) (i : ℕ) (xs : List X) → is_some (position_from test i xs) ≡ list_any test xs
place_any test i [] = refl
place_any test i (x ∷ xs) = elim (cases_Bool (test x)) [
  | inl is ↦ rw is refl
  | inr other ↦ rw other (place_any test (i + 1) xs)
]
