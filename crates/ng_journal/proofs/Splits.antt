-- Texts that are split at what passes a test, from where a search finds it.
use Rattle.std.proofs.Common.{◌≡◌, ℕ, ◌+◌, ◌-◌, ◌<◌, ◌≤◌, suc, Bool, nat_lt, List, [], ◌∷◌, take, drop, length, position, Some, None, refl, ap, subst, ◌∙◌, arith, inl, inr}
use Rattle.std.specs.List.{onto_first, slice_split, position_or_len}
use Rattle.std.proofs.lemmas.Bool.{cases_Bool}
use Rattle.std.proofs.lemmas.Bool.Decides.{nat_tests}
use Rattle.std.proofs.lemmas.List.Splits.{slice_split-cons_no, slice_split-cons_yes, slice_split_first}
use Rattle.std.proofs.lemmas.Grind.{common_steps}

nowhere : (p : ℕ → Bool) (xs : List ℕ) → length xs ≤ position_or_len p xs → slice_split p xs ≡ xs ∷ []
nowhere p [] none = refl
nowhere p (x ∷ xs) none = elim (cases_Bool (p x)) [
  | inl hit ↦ let e : suc (length xs) ≤ 0 = rw hit at none in absurd (omega arith)
  | inr miss ↦ let e : suc (length xs) ≤ 1 + position_or_len p xs = rw miss at none in slice_split-cons_no p x xs miss ∙ ap (onto_first x) (nowhere p xs (omega arith))
]

pub unsplit : (p : ℕ → Bool) (xs : List ℕ) → position p xs ≡ None → slice_split p xs ≡ xs ∷ []
unsplit p xs none = elim (cases_Bool (nat_lt (position_or_len p xs) (length xs))) [
  | inl hit ↦ let found : Some (position_or_len p xs) ≡ None = rw hit at none in absurd (cc found)
  | inr miss ↦ nowhere p xs (grind (arith, nat_tests))
]

pub record IsSplitAt (p : ℕ → Bool) (xs : List ℕ) (place : ℕ) : Type 0 where
  pub there : place < length xs
  pub parts : slice_split p xs ≡ take place xs ∷ slice_split p (drop (place + 1) xs)

pub split_at_place : (p : ℕ → Bool) (xs : List ℕ) (place : ℕ) → position p xs ≡ Some place → IsSplitAt p xs place
split_at_place p xs place found = elim (cases_Bool (nat_lt (position_or_len p xs) (length xs))) [
  | inl hit ↦
      let same : Some (position_or_len p xs) ≡ Some place = rw hit at found in
      let at : position_or_len p xs ≡ place = cc same in
      let below : position_or_len p xs < length xs = grind (arith, nat_tests) in
      subst (λ (n : ℕ). IsSplitAt p xs n) at (record { there = below; parts = slice_split_first p xs 0 below })
  | inr miss ↦ let none : None ≡ Some place = rw miss at found in absurd (cc none)
]

-- there is one part at least
onto_some : (x : ℕ) (parts : List (List ℕ)) → (part : List ℕ) × (others : List (List ℕ)) × (onto_first x parts ≡ part ∷ others)
onto_some x [] = (x ∷ [], [], refl)
onto_some x (part ∷ others) = (x ∷ part, others, refl)

pub some_part : (p : ℕ → Bool) (xs : List ℕ) → (part : List ℕ) × (others : List (List ℕ)) × (slice_split p xs ≡ part ∷ others)
some_part p [] = ([], [], refl)
some_part p (x ∷ xs) = elim (cases_Bool (p x)) [
  | inl hit ↦ ([], slice_split p xs, slice_split-cons_yes p x xs hit)
  | inr miss ↦ let more = onto_some x (slice_split p xs) in (more.0, more.1, slice_split-cons_no p x xs miss ∙ more.2)
]

-- what a range to the end takes
pub rest_is : (n : ℕ) (xs : List ℕ) → take (length xs - n) (drop n xs) ≡ drop n xs
rest_is n xs = grind (arith, common_steps)
