-- Lists that are split at what passes a test, from where a search finds it.
use Rattle.std.proofs.Common.{◌≡◌, ℕ, ◌+◌, ◌-◌, suc, Bool, true, false, List, [], ◌∷◌, take, drop, length, position, Some, None, refl, sym, ap, subst, ◌∙◌, arith, inl, inr}
use Rattle.std.specs.List.{position_from, onto_first, slice_split, AllByRecursion}
use Rattle.std.proofs.lemmas.Bool.{cases_Bool}
use Rattle.std.proofs.lemmas.List.Splits.{slice_split-cons_yes, slice_split-cons_no}
use Rattle.std.proofs.lemmas.Iterator.Adapters.{position_from-zero}
use Rattle.std.proofs.lemmas.Grind.{common_steps}

-- nothing among them passes
abbrev pub IsFree : (ℕ → Bool) → List ℕ → Type 0
IsFree p xs = AllByRecursion (λ x. p x ≡ false) xs

pub split_free : (p : ℕ → Bool) (xs : List ℕ) → IsFree p xs → slice_split p xs ≡ xs ∷ []
split_free p [] free = refl
split_free p (x ∷ xs) free = slice_split-cons_no p x xs free.0 ∙ ap (onto_first x) (split_free p xs free.1)

-- the first that passes stands behind `n`
pub record IsSplitAt (p : ℕ → Bool) (xs : List ℕ) (n : ℕ) : Type 0 where
  pub hit : ℕ
  pub passes : p hit ≡ true
  pub free : IsFree p (take n xs)
  pub behind : drop n xs ≡ hit ∷ drop (suc n) xs
  pub parts : slice_split p xs ≡ take n xs ∷ slice_split p (drop (suc n) xs)

from_place : (p : ℕ → Bool) (i : ℕ) (xs : List ℕ) (place : ℕ) → position_from p i xs ≡ Some place → (n : ℕ) × (place ≡ i + n) × IsSplitAt p xs n
from_place p i [] place h = absurd (cc h)
from_place p i (x ∷ xs) place h = elim (cases_Bool (p x)) [
  | inl hit ↦ let found : Some i ≡ Some place = rw hit at h in
      let same : i ≡ place = cc found in
      (0, omega arith, record { hit = x; passes = hit; free = tt; behind = refl; parts = slice_split-cons_yes p x xs hit })
  | inr miss ↦ let later = from_place p (i + 1) xs place (rw miss at h) in (
    suc later.0,
    (let at = later.1 in omega arith),
    record {
      hit = later.2.hit;
      passes = later.2.passes;
      free = (miss, later.2.free);
      behind = later.2.behind;
      parts = slice_split-cons_no p x xs miss ∙ ap (onto_first x) later.2.parts;
    },
  )
]

nowhere : (p : ℕ → Bool) (i : ℕ) (xs : List ℕ) → position_from p i xs ≡ None → IsFree p xs
nowhere p i [] h = tt
nowhere p i (x ∷ xs) h = elim (cases_Bool (p x)) [
  | inl hit ↦ let found : Some i ≡ None = rw hit at h in absurd (cc found)
  | inr miss ↦ (miss, nowhere p (i + 1) xs (rw miss at h))
]

pub split_at_place : (p : ℕ → Bool) (xs : List ℕ) (place : ℕ) → position p xs ≡ Some place → IsSplitAt p xs place
split_at_place p xs place h =
    let found = from_place p 0 xs place (sym (position_from-zero p xs) ∙ h) in
    let at : found.0 ≡ place = (let e = found.1 in omega arith) in
    subst (λ (n : ℕ). IsSplitAt p xs n) at found.2

pub free_nowhere : (p : ℕ → Bool) (xs : List ℕ) → position p xs ≡ None → IsFree p xs
free_nowhere p xs h = nowhere p 0 xs (sym (position_from-zero p xs) ∙ h)

-- there is one part at least
onto_some : (x : ℕ) (parts : List (List ℕ)) → (part : List ℕ) × (others : List (List ℕ)) × (onto_first x parts ≡ part ∷ others)
onto_some x [] = (x ∷ [], [], refl)
onto_some x (part ∷ others) = (x ∷ part, others, refl)

pub split_some : (p : ℕ → Bool) (xs : List ℕ) → (part : List ℕ) × (others : List (List ℕ)) × (slice_split p xs ≡ part ∷ others)
split_some p [] = ([], [], refl)
split_some p (x ∷ xs) = elim (cases_Bool (p x)) [
  | inl hit ↦ ([], slice_split p xs, slice_split-cons_yes p x xs hit)
  | inr miss ↦ let more = onto_some x (slice_split p xs) in (more.0, more.1, slice_split-cons_no p x xs miss ∙ more.2)
]

-- what a range to the end takes
pub rest_is : (n : ℕ) (xs : List ℕ) → take (length xs - n) (drop n xs) ≡ drop n xs
rest_is n xs = grind (arith, common_steps)

pub nothing_left : (xs : List ℕ) → take (length xs - length xs) (drop (length xs) xs) ≡ []
nothing_left xs = grind (arith, common_steps)
