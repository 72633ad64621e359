-- What the first part of a hook part says of its first fault.
use Rattle.std.proofs.Common.{◌≡◌, ℕ, ◌+◌, ◌⊎◌, inl, inr, subst, true, eqb, is_some, List, [], ◌∷◌, ◌++◌, length, Option, Some, None, MatchOption, refl, sym, ap, ◌∙◌, Bor, arith}
use Rattle.ng_path.specs.declared.fault.PathFault.TheVariants.{TwoDots, BadName}
use Rattle.std.proofs.lemmas.Bool.{eqb-true}
use Rattle.ng_base.specs.Name.{IsName}
use Rattle.ng_path.specs.Segments.{cut_at, AreNames, AreNamesJoined}
use Rattle.ng_path.specs.Faults.{IsBadSegment, StartsWithDot}
use Rattle.ng_path.proofs.Cuts.{cut_some}
use Rattle.ng_path.proofs.Names.{bad_from, not_bad}
use Rattle.ng_path.proofs.Walks.{first_fault, opens}
use Rattle.ng_path.proofs.Joined.{opens_undotted}

-- what the parts of the bytes are, with a mark behind the first and without
abbrev pub HasFront : ℕ → List ℕ → List ℕ → Option (Bor (List ℕ)) → Type 0
HasFront mark bytes part rest = MatchOption rest (cut_at mark bytes ≡ part ∷ []) (λ r. cut_at mark bytes ≡ part ∷ cut_at mark r.now)

pub front_of : (mark : ℕ) (bytes part : List ℕ) (rest : Option (Bor (List ℕ))) → HasFront mark bytes part rest
    → (others : List (List ℕ)) × (cut_at mark bytes ≡ part ∷ others)
front_of mark bytes part None h = ([], h)
front_of mark bytes part (Some r) h = (cut_at mark r.now, h)

pub at_bad : (place : ℕ) (bytes part : List ℕ) (rest : Option (Bor (List ℕ))) → HasFront 0x2e bytes part rest
    → IsBadSegment part → first_fault place (cut_at 0x2e bytes) ≡ Some (BadName place)
at_bad place bytes part rest h wrong =
    let front = front_of 0x2e bytes part rest h in
    ap (λ (l : List (List ℕ)). first_fault place l) front.1 ∙ rw (bad_from part wrong) refl

pub at_end : (place : ℕ) (bytes part : List ℕ) → cut_at 0x2e bytes ≡ part ∷ [] → (IsBadSegment part → ⊥) → first_fault place (cut_at 0x2e bytes) ≡ None
at_end place bytes part h good = ap (λ (l : List (List ℕ)). first_fault place l) h ∙ rw (not_bad part good) refl

pub at_two : (place : ℕ) (bytes part after : List ℕ) → cut_at 0x2e bytes ≡ part ∷ cut_at 0x2e after → (IsBadSegment part → ⊥) → StartsWithDot after
    → first_fault place (cut_at 0x2e bytes) ≡ Some (TwoDots (place + length part))
at_two place bytes part after h good dot =
    ap (λ (l : List (List ℕ)). first_fault place l) h
    ∙ ap (λ (l : List ℕ). first_fault place (part ∷ cut_at 0x2e l)) dot.1
    ∙ rw (not_bad part good, opens dot.0) refl

pub at_next : (place : ℕ) (bytes part after : List ℕ) → cut_at 0x2e bytes ≡ part ∷ cut_at 0x2e after → (IsBadSegment part → ⊥) → (StartsWithDot after → ⊥)
    → first_fault place (cut_at 0x2e bytes) ≡ first_fault (place + length part + 1) (cut_at 0x2e after)
at_next place bytes part after h good undotted =
    ap (λ (l : List (List ℕ)). first_fault place l) h ∙ rw (not_bad part good, opens_undotted after (λ rest e. undotted (rest, e))) refl

-- the first of joined names is a name
part_named : (part : List ℕ) (others : List (List ℕ)) → IsName part ⊎ ((part ≡ []) × (others ≡ [])) → (part ≡ [] → others ≡ [] → ⊥) → IsName part
part_named part others (inl named) some = named
part_named part others (inr none) some = absurd (some none.0 none.1)

no_cut : (mark : ℕ) (bytes : List ℕ) → cut_at mark bytes ≡ [] → ⊥
no_cut mark bytes e = let some = cut_some mark bytes in let same = sym some.2 ∙ e in cc same

pub front_named : (text part : List ℕ) (rest : Option (Bor (List ℕ))) → HasFront 0x2e text part rest
    → MatchOption rest (text ≡ part) (λ r. text ≡ part ++ 0x2e ∷ r.now)
    → AreNamesJoined text → (text ≡ [] → ⊥) → IsName part
front_named text part None h whole names some =
    let kinds = subst (λ (l : List (List ℕ)). AreNames l) h names in
    part_named part [] kinds.0 (λ e none. some (whole ∙ e))
front_named text part (Some r) h whole names some =
    let kinds = subst (λ (l : List (List ℕ)). AreNames l) h names in
    part_named part (cut_at 0x2e r.now) kinds.0 (λ e none. no_cut 0x2e r.now none)

pub no_bytes : (bytes : List ℕ) → eqb (length bytes) 0 ≡ true → bytes ≡ []
no_bytes [] h = refl
no_bytes (b ∷ bytes) h = let none = eqb-true (length (b ∷ bytes)) 0 h in absurd (omega arith)

-- a mark is there, so another part follows
pub some_behind : (mark : ℕ) (bytes part : List ℕ) (rest : Option (Bor (List ℕ))) → HasFront mark bytes part rest → is_some rest ≡ true
    → (next : List ℕ) × (others : List (List ℕ)) × (cut_at mark bytes ≡ part ∷ (next ∷ others))
some_behind mark bytes part None h some = absurd (cc some)
some_behind mark bytes part (Some r) h some =
    let behind = cut_some mark r.now in (behind.0, behind.1, h ∙ ap (λ (l : List (List ℕ)). part ∷ l) behind.2)
