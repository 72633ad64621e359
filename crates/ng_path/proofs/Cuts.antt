-- Bytes that are cut at a mark.
use Rattle.std.proofs.Common.{◌≡◌, ℕ, ◌+◌, suc, true, false, ◌==◌, eqb, List, [], ◌∷◌, ◌++◌, take, drop, length, position, Some, None, refl, sym, ap, subst, ◌∙◌, ◌-◌, arith, inl, inr}
use Rattle.std.specs.List.{position_from, onto_first, AllByRecursion}
use Rattle.std.proofs.lemmas.Bool.{cases_Bool, eqb-true}
use Rattle.std.proofs.lemmas.List.Splits.{slice_split-cons_yes, slice_split-cons_no}
use Rattle.std.proofs.lemmas.Iterator.Adapters.{position_from-zero}
use Rattle.std.proofs.lemmas.Grind.{common_steps}
use Rattle.ng_path.specs.Segments.{cut_at}

-- the mark isn't among the bytes
abbrev pub IsFree : ℕ → List ℕ → Type 0
IsFree mark bytes = AllByRecursion (λ b. eqb b mark ≡ false) bytes

pub cut_free : (mark : ℕ) (bytes : List ℕ) → IsFree mark bytes → cut_at mark bytes ≡ bytes ∷ []
cut_free mark [] free = refl
cut_free mark (b ∷ bytes) free =
    slice_split-cons_no (λ b. eqb b mark) b bytes free.0 ∙ ap (onto_first b) (cut_free mark bytes free.1)

pub cut_front : (mark : ℕ) (front rest : List ℕ) → eqb mark mark ≡ true → IsFree mark front → cut_at mark (front ++ mark ∷ rest) ≡ front ∷ cut_at mark rest
cut_front mark [] rest same free = slice_split-cons_yes (λ b. eqb b mark) mark rest same
cut_front mark (b ∷ front) rest same free =
    slice_split-cons_no (λ b. eqb b mark) b (front ++ mark ∷ rest) free.0 ∙ ap (onto_first b) (cut_front mark front rest same free.1)

pub free_append : (mark : ℕ) (xs ys : List ℕ) → IsFree mark xs → IsFree mark ys → IsFree mark (xs ++ ys)
free_append mark [] ys fx fy = fy
free_append mark (x ∷ xs) ys fx fy = (fx.0, free_append mark xs ys fx.1 fy)

-- there is one part at least
onto_some : (b : ℕ) (parts : List (List ℕ)) → (part : List ℕ) × (others : List (List ℕ)) × (onto_first b parts ≡ part ∷ others)
onto_some b [] = (b ∷ [], [], refl)
onto_some b (part ∷ others) = (b ∷ part, others, refl)

pub cut_some : (mark : ℕ) (bytes : List ℕ) → (part : List ℕ) × (others : List (List ℕ)) × (cut_at mark bytes ≡ part ∷ others)
cut_some mark [] = ([], [], refl)
cut_some mark (b ∷ bytes) = elim (cases_Bool (eqb b mark)) [
  | inl hit ↦ ([], cut_at mark bytes, slice_split-cons_yes (λ b. eqb b mark) b bytes hit)
  | inr miss ↦ let more = onto_some b (cut_at mark bytes) in
      (more.0, more.1, slice_split-cons_no (λ b. eqb b mark) b bytes miss ∙ more.2)
]

-- ---- the first mark is where a search finds it

-- the bytes before the first mark are `n`
pub record IsCutAt (mark : ℕ) (bytes : List ℕ) (n : ℕ) : Type 0 where
  pub parts : cut_at mark bytes ≡ take n bytes ∷ cut_at mark (drop (suc n) bytes)
  pub whole : bytes ≡ take n bytes ++ mark ∷ drop (suc n) bytes

from_place : (mark i : ℕ) (bytes : List ℕ) (place : ℕ) → position_from (λ b. eqb b mark) i bytes ≡ Some place
    → (n : ℕ) × (place ≡ i + n) × IsCutAt mark bytes n
from_place mark i [] place h = absurd (cc h)
from_place mark i (b ∷ bytes) place h = elim (cases_Bool (eqb b mark)) [
  | inl hit ↦ let found : Some i ≡ Some place = rw hit at h in
      let same : i ≡ place = cc found in
      (0, omega arith, record { parts = slice_split-cons_yes (λ b. eqb b mark) b bytes hit; whole = ap (λ (x : ℕ). x ∷ bytes) (eqb-true b mark hit) })
  | inr miss ↦ let later = from_place mark (i + 1) bytes place (rw miss at h) in (
    suc later.0,
    (let at = later.1 in omega arith),
    record { parts = slice_split-cons_no (λ b. eqb b mark) b bytes miss ∙ ap (onto_first b) later.2.parts; whole = ap (λ (l : List ℕ). b ∷ l) later.2.whole },
  )
]

nowhere : (mark i : ℕ) (bytes : List ℕ) → position_from (λ b. eqb b mark) i bytes ≡ None → IsFree mark bytes
nowhere mark i [] h = tt
nowhere mark i (b ∷ bytes) h = elim (cases_Bool (eqb b mark)) [
  | inl hit ↦ let found : Some i ≡ None = rw hit at h in absurd (cc found)
  | inr miss ↦ (miss, nowhere mark (i + 1) bytes (rw miss at h))
]

pub cut_at_place : (mark : ℕ) (bytes : List ℕ) (place : ℕ) → position (λ b. b == mark) bytes ≡ Some place → IsCutAt mark bytes place
cut_at_place mark bytes place h =
    let found = from_place mark 0 bytes place (sym (position_from-zero (λ b. eqb b mark) bytes) ∙ h) in
    let at : found.0 ≡ place = (let e = found.1 in omega arith) in
    subst (λ (n : ℕ). IsCutAt mark bytes n) at found.2

-- what a range to the end takes
pub rest_is : (n : ℕ) (bytes : List ℕ) → take (length bytes - n) (drop n bytes) ≡ drop n bytes
rest_is n bytes = grind (arith, common_steps)

pub cut_nowhere : (mark : ℕ) (bytes : List ℕ) → position (λ b. b == mark) bytes ≡ None → cut_at mark bytes ≡ bytes ∷ []
cut_nowhere mark bytes h = cut_free mark bytes (nowhere mark 0 bytes (sym (position_from-zero (λ b. eqb b mark) bytes) ∙ h))
