-- The parts of a hook part, and the first thing that is wrong among them.
use Rattle.std.proofs.Common.{◌≡◌, ℕ, ◌+◌, ◌<◌, suc, Bool, true, false, cond, eqb, ◌⊎◌, List, [], ◌∷◌, ◌++◌, length, Option, Some, None, refl, sym, ap, subst, ◌∙◌, append_assoc, length-append, arith, inl, inr}
use Rattle.std.specs.List.{onto_first, join_with_byte}
use Rattle.std.proofs.lemmas.Bool.{cases_Bool}
use Rattle.std.proofs.lemmas.List.Sums.{sum_by-cons}
use Rattle.std.proofs.lemmas.List.Splits.{slice_split-cons_yes, slice_split-cons_no, join_with_byte-slice_split}
use Rattle.ng_path.specs.declared.fault.PathFault.{PathFault}
use Rattle.ng_path.specs.declared.fault.PathFault.TheVariants.{TooLong, EmptyNode, SecondColon, TwoDots, BadName}
use Rattle.ng_path.specs.Segments.{cut_at}
use Rattle.ng_path.specs.Faults.{IsBadSegment, dotted_length, HasTwoDots, HasBadSegment, IsHookFault, fault_rank, IsFirstOf}
use Rattle.ng_path.proofs.Cuts.{cut_some}
use Rattle.ng_path.proofs.Names.{bad, bad_is, bad_from}

-- an empty part comes next, and it isn't the last
abbrev pub opens_empty : List (List ℕ) → Bool
opens_empty ([] ∷ last ∷ more) = true
opens_empty parts = false

-- the first fault of parts of which the first begins at `place`
abbrev pub first_fault : ℕ → List (List ℕ) → Option PathFault
first_fault place [] = None
first_fault place (part ∷ parts) =
    cond (bad part) (Some (BadName place)) (cond (opens_empty parts) (Some (TwoDots (place + length part))) (first_fault (place + length part + 1) parts))

-- two dots stand behind `n` bytes
abbrev pub TwoAt : List (List ℕ) → ℕ → Type 0
TwoAt [] n = ⊥
TwoAt (part ∷ parts) n = ((opens_empty parts ≡ true) × (n ≡ length part)) ⊎ ((m : ℕ) × (n ≡ length part + 1 + m) × TwoAt parts m)

-- a part behind `n` bytes is bad
abbrev pub BadAt : List (List ℕ) → ℕ → Type 0
BadAt [] n = ⊥
BadAt (part ∷ parts) n = (IsBadSegment part × (n ≡ 0)) ⊎ ((m : ℕ) × (n ≡ length part + 1 + m) × BadAt parts m)

abbrev pub IsPartFault : ℕ → List (List ℕ) → PathFault → Type 0
IsPartFault place parts fault =
    ((n : ℕ) × (fault ≡ BadName (place + n)) × BadAt parts n) ⊎ ((n : ℕ) × (fault ≡ TwoDots (place + n)) × TwoAt parts n)

pub dotted-cons : (part : List ℕ) (parts : List (List ℕ)) → dotted_length (part ∷ parts) ≡ length part + 1 + dotted_length parts
dotted-cons part parts = sum_by-cons (λ (p : List ℕ). length p + 1) part parts

-- ---- from the text to its parts and back

two_onto : (b : ℕ) (parts : List (List ℕ)) (n : ℕ) → TwoAt parts n → TwoAt (onto_first b parts) (suc n)
two_onto b [] n h = absurd h
two_onto b (part ∷ parts) n (inl (opens, at)) = inl (opens, ap suc at)
two_onto b (part ∷ parts) n (inr (m, at, later)) = inr (m, omega arith, later)

pub opens : (text : List ℕ) → opens_empty ([] ∷ cut_at 0x2e text) ≡ true
opens text = let some = cut_some 0x2e text in ap (λ (parts : List (List ℕ)). opens_empty ([] ∷ parts)) some.2

two_front : (front back : List ℕ) → TwoAt (cut_at 0x2e (front ++ (0x2e ∷ 0x2e ∷ back))) (length front)
two_front [] back = inl (opens back, refl)
two_front (b ∷ front) back = elim (cases_Bool (eqb b 0x2e)) [
  | inl hit ↦ subst (λ (parts : List (List ℕ)). TwoAt parts (suc (length front)))
      (sym (slice_split-cons_yes (λ b. eqb b 0x2e) b (front ++ (0x2e ∷ 0x2e ∷ back)) hit)) (inr (length front, omega arith, two_front front back))
  | inr miss ↦ subst (λ (parts : List (List ℕ)). TwoAt parts (suc (length front)))
      (sym (slice_split-cons_no (λ b. eqb b 0x2e) b (front ++ (0x2e ∷ 0x2e ∷ back)) miss)) (two_onto b _ (length front) (two_front front back))
]

two_from : (text : List ℕ) (n : ℕ) → HasTwoDots text n → TwoAt (cut_at 0x2e text) n
two_from text n h = rw (h.whole, h.at) (two_front h.front h.back)

two_joined : (parts : List (List ℕ)) (n : ℕ) → TwoAt parts n → HasTwoDots (join_with_byte 0x2e parts) n
two_joined [] n h = absurd h
two_joined (part ∷ []) n (inl (o, at)) = absurd (cc o)
two_joined (part ∷ ([] ∷ [])) n (inl (o, at)) = absurd (cc o)
two_joined (part ∷ ([] ∷ (last ∷ more))) n (inl (o, at)) = record { front = part; back = join_with_byte 0x2e (last ∷ more); whole = refl; at = at }
two_joined (part ∷ ((b ∷ next) ∷ more)) n (inl (o, at)) = absurd (cc o)
two_joined (part ∷ []) n (inr (m, at, later)) = absurd later
two_joined (part ∷ (next ∷ more)) n (inr (m, at, later)) =
    let rest = two_joined (next ∷ more) m later in
    record {
      front = part ++ 0x2e ∷ rest.front;
      back = rest.back;
      whole = ap (λ (l : List ℕ). part ++ 0x2e ∷ l) rest.whole ∙ sym (append_assoc part (0x2e ∷ rest.front) (0x2e ∷ 0x2e ∷ rest.back));
      at = (let shift = rest.at in let size = length-append part (0x2e ∷ rest.front) in omega arith);
    }

two_back : (text : List ℕ) (n : ℕ) → TwoAt (cut_at 0x2e text) n → HasTwoDots text n
two_back text n h = subst (λ (l : List ℕ). HasTwoDots l n) (join_with_byte-slice_split 0x2e text) (two_joined (cut_at 0x2e text) n h)

bad_front : (before : List (List ℕ)) (part : List ℕ) (after : List (List ℕ)) → IsBadSegment part → BadAt (before ++ part ∷ after) (dotted_length before)
bad_front [] part after h = inl (h, refl)
bad_front (first ∷ before) part after h = inr (dotted_length before, dotted-cons first before, bad_front before part after h)

bad_at : (text : List ℕ) (n : ℕ) → HasBadSegment text n → BadAt (cut_at 0x2e text) n
bad_at text n h = rw (h.segments, h.at) (bad_front h.before h.segment h.after h.bad)

bad_split : (parts : List (List ℕ)) (n : ℕ) → BadAt parts n
    → (before : List (List ℕ)) × (part : List ℕ) × (after : List (List ℕ)) × (parts ≡ before ++ part ∷ after) × IsBadSegment part × (n ≡ dotted_length before)
bad_split [] n h = absurd h
bad_split (part ∷ parts) n (inl (h, at)) = ([], part, parts, refl, h, at)
bad_split (part ∷ parts) n (inr (m, at, later)) =
    let rest = bad_split parts m later in (
      part ∷ rest.0,
      rest.1,
      rest.2,
      ap (λ (l : List (List ℕ)). part ∷ l) rest.3,
      rest.4,
      (let shift = rest.5 in let sum = dotted-cons part rest.0 in omega arith),
    )

bad_back : (text : List ℕ) (n : ℕ) → BadAt (cut_at 0x2e text) n → HasBadSegment text n
bad_back text n h =
    let split = bad_split (cut_at 0x2e text) n h in
    record { before = split.0; segment = split.1; after = split.2; segments = split.3; bad = split.4; at = split.5 }

pub to_parts : (place : ℕ) (text : List ℕ) (fault : PathFault) → IsHookFault place text fault → IsPartFault place (cut_at 0x2e text) fault
to_parts place text TooLong h = absurd h
to_parts place text EmptyNode h = absurd h
to_parts place text (SecondColon at) h = absurd h
to_parts place text (TwoDots at) (n, two, e) = inr (n, ap (λ (k : ℕ). TwoDots k) e, two_from text n two)
to_parts place text (BadName at) (n, wrong, e) = inl (n, ap (λ (k : ℕ). BadName k) e, bad_at text n wrong)

pub from_parts : (place : ℕ) (text : List ℕ) (fault : PathFault) → IsPartFault place (cut_at 0x2e text) fault → IsHookFault place text fault
from_parts place text fault (inl (n, e, h)) = subst (λ (f : PathFault). IsHookFault place text f) (sym e) (n, bad_back text n h, refl)
from_parts place text fault (inr (n, e, h)) = subst (λ (f : PathFault). IsHookFault place text f) (sym e) (n, two_back text n h, refl)

-- ---- the first fault is a fault, and no other comes before it

fault_later : (place : ℕ) (part : List ℕ) (parts : List (List ℕ)) (fault : PathFault)
    → IsPartFault (place + length part + 1) parts fault → IsPartFault place (part ∷ parts) fault
fault_later place part parts fault (inl (n, e, h)) =
    inl (length part + 1 + n, (let at : place + length part + 1 + n ≡ place + (length part + 1 + n) = omega arith in e ∙ ap (λ (k : ℕ). BadName k) at), inr (n, refl, h))
fault_later place part parts fault (inr (n, e, h)) =
    inr (length part + 1 + n, (let at : place + length part + 1 + n ≡ place + (length part + 1 + n) = omega arith in e ∙ ap (λ (k : ℕ). TwoDots k) at), inr (n, refl, h))

pub first_is_fault : (place : ℕ) (parts : List (List ℕ)) (fault : PathFault) → first_fault place parts ≡ Some fault → IsPartFault place parts fault
first_is_fault place [] fault h = absurd (cc h)
first_is_fault place (part ∷ parts) fault h = elim (cases_Bool (bad part)) [
  | inl wrong ↦ let told : Some (BadName place) ≡ Some fault = rw wrong at h in
      let same : BadName place ≡ fault = cc told in
      let at : place ≡ place + 0 = omega arith in
      inl (0, sym same ∙ ap (λ (k : ℕ). BadName k) at, inl (bad_is part wrong, refl))
  | inr good ↦ elim (cases_Bool (opens_empty parts)) [
    | inl two ↦ let told : Some (TwoDots (place + length part)) ≡ Some fault = rw (good, two) at h in
        let same : TwoDots (place + length part) ≡ fault = cc told in
        inr (length part, sym same, inl (two, refl))
    | inr one ↦ let later : first_fault (place + length part + 1) parts ≡ Some fault = rw (good, one) at h in
        fault_later place part parts fault (first_is_fault (place + length part + 1) parts fault later)
  ]
]

-- it is the fault, or comes before it
abbrev pub Precedes : PathFault → PathFault → Type 0
Precedes fault other = (other ≡ fault) ⊎ (fault_rank fault < fault_rank other)

some_length : (part : List ℕ) → IsBadSegment part → 0 < length part
some_length [] h = absurd (h.0 refl)
some_length (b ∷ part) h = omega arith

before_bad : (place : ℕ) (part : List ℕ) (parts : List (List ℕ)) (other : PathFault) → IsBadSegment part
    → IsPartFault place (part ∷ parts) other → Precedes (BadName place) other
before_bad place part parts other wrong (inl (n, e, inl (h, at))) =
    let same : place + n ≡ place = omega arith in inl (e ∙ ap (λ (k : ℕ). BadName k) same)
before_bad place part parts other wrong (inl (n, e, inr (m, at, h))) = let rank = ap fault_rank e in inr (omega arith)
before_bad place part parts other wrong (inr (n, e, inl (two, at))) = let rank = ap fault_rank e in let some = some_length part wrong in inr (omega arith)
before_bad place part parts other wrong (inr (n, e, inr (m, at, h))) = let rank = ap fault_rank e in inr (omega arith)

before_two : (place : ℕ) (part : List ℕ) (parts : List (List ℕ)) (other : PathFault) → bad part ≡ false
    → IsPartFault place (part ∷ parts) other → Precedes (TwoDots (place + length part)) other
before_two place part parts other good (inl (n, e, inl (h, at))) = let wrong = bad_from part h in absurd (cc (good, wrong))
before_two place part parts other good (inl (n, e, inr (m, at, h))) = let rank = ap fault_rank e in inr (omega arith)
before_two place part parts other good (inr (n, e, inl (two, at))) = inl (e ∙ ap (λ (k : ℕ). TwoDots (place + k)) at)
before_two place part parts other good (inr (n, e, inr (m, at, h))) = let rank = ap fault_rank e in inr (omega arith)

behind : (place : ℕ) (part : List ℕ) (parts : List (List ℕ)) (other : PathFault) → bad part ≡ false
    → opens_empty parts ≡ false → IsPartFault place (part ∷ parts) other
    → IsPartFault (place + length part + 1) parts other
behind place part parts other good one (inl (n, e, inl (h, at))) = let wrong = bad_from part h in absurd (cc (good, wrong))
behind place part parts other good one (inl (n, e, inr (m, at, h))) =
    let same : place + n ≡ place + length part + 1 + m = omega arith in inl (m, e ∙ ap (λ (k : ℕ). BadName k) same, h)
behind place part parts other good one (inr (n, e, inl (two, at))) = absurd (cc (one, two))
behind place part parts other good one (inr (n, e, inr (m, at, h))) =
    let same : place + n ≡ place + length part + 1 + m = omega arith in inr (m, e ∙ ap (λ (k : ℕ). TwoDots k) same, h)

pub first_precedes : (place : ℕ) (parts : List (List ℕ)) (other : PathFault) → IsPartFault place parts other
    → (fault : PathFault) × (first_fault place parts ≡ Some fault) × Precedes fault other
first_precedes place [] other (inl (n, e, h)) = absurd h
first_precedes place [] other (inr (n, e, h)) = absurd h
first_precedes place (part ∷ parts) other h = elim (cases_Bool (bad part)) [
  | inl wrong ↦ (BadName place, rw wrong refl, before_bad place part parts other (bad_is part wrong) h)
  | inr good ↦ elim (cases_Bool (opens_empty parts)) [
    | inl two ↦ (TwoDots (place + length part), rw (good, two) refl, before_two place part parts other good h)
    | inr one ↦ let later = first_precedes (place + length part + 1) parts other (behind place part parts other good one h) in
        (later.0, rw (good, one) later.1, later.2)
  ]
]

-- the fault that is found is the first
pub is_first : (place : ℕ) (text : List ℕ) (fault : PathFault)
    → first_fault place (cut_at 0x2e text) ≡ Some fault → IsFirstOf (IsHookFault place text) fault
is_first place text fault h = record {
  there = from_parts place text fault (first_is_fault place (cut_at 0x2e text) fault h);
  first = λ other there.
      let found = first_precedes place (cut_at 0x2e text) other (to_parts place text other there) in
      let told : Some fault ≡ Some found.0 = sym h ∙ found.1 in
      let same : fault ≡ found.0 = cc told in
      subst (λ (f : PathFault). Precedes f other) (sym same) found.2;
}
