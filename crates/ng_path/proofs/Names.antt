-- Names among the parts of an address: they aren't empty, and no mark stands in them.
use Rattle.std.proofs.Common.{◌≡◌, ℕ, Bool, true, false, not, ◌&&◌, eqb, nat_le, List, [], ◌∷◌, Option, Some, None, is_some, refl, ap, inl, inr, ◌⊎◌}
use Rattle.std.specs.List.{AllByRecursion}
use Rattle.std.proofs.lemmas.Bool.{cases_Bool}
use Rattle.ng_base.specs.declared.name.NameFault.{NameFault}
use Rattle.ng_base.specs.Name.{is_name_byte, name_fault, IsName}
use Rattle.ng_base.proofs.NameLemmas.{each_name_byte}
use Rattle.ng_path.specs.Faults.{IsBadSegment}
use Rattle.ng_path.proofs.Cuts.{IsFree}

two_marks : (x d c : Bool) → ((x && not d) && not c) ≡ true → (d ≡ false) × (c ≡ false)
two_marks true true c h = absurd (cc h)
two_marks true false true h = absurd (cc h)
two_marks true false false h = (refl, refl)
two_marks false d c h = absurd (cc h)

no_mark : (b : ℕ) → is_name_byte b ≡ true → (eqb b 0x2e ≡ false) × (eqb b 0x3a ≡ false)
no_mark b h = two_marks (nat_le 0x21 b && nat_le b 0x7e) (eqb b 0x2e) (eqb b 0x3a) h

split_free : (bytes : List ℕ) → AllByRecursion (λ b. (eqb b 0x2e ≡ false) × (eqb b 0x3a ≡ false)) bytes → IsFree 0x2e bytes × IsFree 0x3a bytes
split_free [] h = (tt, tt)
split_free (b ∷ bytes) h = let others = split_free bytes h.1 in ((h.0.0, others.0), (h.0.1, others.1))

-- neither a dot nor a colon
pub name_free : (name : List ℕ) → IsName name → IsFree 0x2e name × IsFree 0x3a name
name_free name h = split_free name (each_name_byte (λ b. (eqb b 0x2e ≡ false) × (eqb b 0x3a ≡ false)) no_mark name h)

-- ---- whether a part is neither empty nor a name

pub bad : List ℕ → Bool
bad [] = false
bad (b ∷ part) = is_some (name_fault (b ∷ part))

pub good_empty : bad [] ≡ false
unfolding bad
good_empty = refl

pub good_name : (part : List ℕ) → IsName part → bad part ≡ false
unfolding bad
good_name [] h = refl
good_name (b ∷ part) h = ap (λ (o : Option NameFault). is_some o) h

no_name : (fault : Option NameFault) → is_some fault ≡ true → fault ≡ None → ⊥
no_name None h e = cc h
no_name (Some f) h e = cc e

is_none_of : (fault : Option NameFault) → is_some fault ≡ false → fault ≡ None
is_none_of None h = refl
is_none_of (Some f) h = absurd (cc h)

is_some_of : (fault : Option NameFault) → (fault ≡ None → ⊥) → is_some fault ≡ true
is_some_of None h = absurd (h refl)
is_some_of (Some f) h = refl

pub bad_is : (part : List ℕ) → bad part ≡ true → IsBadSegment part
unfolding bad
bad_is [] h = absurd (cc h)
bad_is (b ∷ part) h = ((λ e. cc e), no_name (name_fault (b ∷ part)) h)

pub bad_from : (part : List ℕ) → IsBadSegment part → bad part ≡ true
unfolding bad
bad_from [] h = absurd (h.0 refl)
bad_from (b ∷ part) h = is_some_of (name_fault (b ∷ part)) h.1

pub good_is : (part : List ℕ) → bad part ≡ false → (part ≡ []) ⊎ IsName part
unfolding bad
good_is [] h = inl refl
good_is (b ∷ part) h = inr (is_none_of (name_fault (b ∷ part)) h)

pub not_bad : (part : List ℕ) → (IsBadSegment part → ⊥) → bad part ≡ false
not_bad part h = elim (cases_Bool (bad part)) [ inl hit ↦ absurd (h (bad_is part hit)) | inr miss ↦ miss ]
