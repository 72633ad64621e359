-- Two ways to count that agree on what a shape asks for.
use Rattle.std.proofs.Common.{◌≡◌, ◌<◌, ◌+◌, ℕ, zero, suc, true, false, not, List, [], ◌∷◌, ◌++◌, Some, refl, sym, ap, ◌∙◌, arith}
use Rattle.std.proofs.lemmas.Bool.{and_parts}
use Rattle.ng_shape.specs.Shape.{Shape, Nothing, UInt, Int, Hex, Str, Ether, Struct, Array, Counted, Fields, no_fields, field, CountField, Own, Inside}
use Rattle.ng_shape.specs.Sound.{first_fields, is_counted, is_counted_well, is_sound}
use Rattle.ng_shape.specs.Values.{Value, Absent, number, members, find, count_in}
use Rattle.ng_shape.specs.Decoding.{group_value, number_value}
use Rattle.ng_shape.specs.Canonical.{plain, plain_fields}
use Rattle.ng_shape.proofs.Views.{unpack_pack}
use Rattle.ng_shape.proofs.Lookups.{shape_at, CountsEarly, counter_early, find_front, find_given_other, find_given_same, not_true}

abbrev pub Agree : Shape → (CountField → ℕ) → (CountField → ℕ) → Type 0
Agree Nothing c d = Unit {0}
Agree (UInt bits) c d = Unit {0}
Agree (Int bits) c d = Unit {0}
Agree (Hex bits) c d = Unit {0}
Agree (Str n) c d = Unit {0}
Agree Ether c d = Unit {0}
Agree (Struct ps) c d = Unit {0}
Agree (Array n f) c d = Agree f c d
Agree (Counted by max f) c d = (c by ≡ d by) × Agree f c d

-- what is no counted array asks for nothing
pub agree_free : (f : Shape) (c d : CountField → ℕ) → is_counted f ≡ false → is_sound f ≡ true → Agree f c d
agree_free Nothing c d free sound = tt
agree_free (UInt bits) c d free sound = tt
agree_free (Int bits) c d free sound = tt
agree_free (Hex bits) c d free sound = tt
agree_free (Str n) c d free sound = tt
agree_free Ether c d free sound = tt
agree_free (Struct ps) c d free sound = tt
agree_free (Array n f) c d free sound =
    let both = and_parts (not (is_counted f)) (is_sound f) sound in
    agree_free f c d (not_true (is_counted f) both.0) both.1
agree_free (Counted by max f) c d free sound = cc

-- a field, where the two ways to count agree on all that early fields count
pub agree_field : (f : Shape) (ps : Fields) (j : ℕ) (c d : CountField → ℕ) → is_sound f ≡ true → is_counted_well (first_fields j ps) f ≡ true
    → ((by : CountField) → CountsEarly ps j by → c by ≡ d by) → Agree f c d
agree_field Nothing ps j c d sound well same = tt
agree_field (UInt bits) ps j c d sound well same = tt
agree_field (Int bits) ps j c d sound well same = tt
agree_field (Hex bits) ps j c d sound well same = tt
agree_field (Str n) ps j c d sound well same = tt
agree_field Ether ps j c d sound well same = tt
agree_field (Struct qs) ps j c d sound well same = tt
agree_field (Array n f) ps j c d sound well same = agree_free (Array n f) c d refl sound
agree_field (Counted by max f) ps j c d sound well same =
    let both = and_parts (not (is_counted f)) (is_sound f) sound in
    (same by (counter_early by ps j max f well), agree_free f c d (not_true (is_counted f) both.0) both.1)

-- ---- what the plain members of a structure count

pub number_plain : (n : ℕ) → number (number_value n) ≡ n
number_plain zero = refl
number_plain (suc n) = refl

pub members_group : (ms : List (ℕ × Value)) → members (group_value ms) ≡ ms
members_group [] = refl
members_group (m ∷ ms) = unpack_pack (m ∷ ms)

plain_from : (ps : Fields) (c : CountField → ℕ) (ms : List (ℕ × Value)) (i j : ℕ) → i < j → find i (plain_fields ps c ms j) ≡ Absent
unfolding plain plain_fields
plain_from no_fields c ms i j lt = refl
plain_from (field name f ps) c ms i j lt =
    find_given_other i j (plain f c (find j ms)) (plain_fields ps c ms (j + 1)) (λ e. omega (arith, e)) ∙ plain_from ps c ms i (j + 1) (omega arith)

pub plain_at : (ps : Fields) (c : CountField → ℕ) (ms : List (ℕ × Value)) (k j i : ℕ) (f : Shape) → i ≡ k + j → shape_at ps k ≡ Some f → find i (plain_fields ps c ms j) ≡ plain f c (find i ms)
unfolding plain plain_fields
plain_at no_fields c ms k j i f at e = cc
plain_at (field name g ps) c ms zero j i f at e =
    let same : g ≡ f = cc in
    let here : i ≡ j = omega arith in
    rw (here, same) (find_given_same j (plain f c (find j ms)) (plain_fields ps c ms (j + 1)) (plain_from ps c ms j (j + 1) (omega arith)))
plain_at (field name g ps) c ms (suc k) j i f at e =
    find_given_other i j (plain g c (find j ms)) (plain_fields ps c ms (j + 1)) (λ h. omega (arith, h)) ∙ plain_at ps c ms k (j + 1) i f (omega arith) e

-- what was found of the early fields
plain_found : (ps whole : Fields) (c : CountField → ℕ) (ms so_far : List (ℕ × Value)) (i j : ℕ) (f : Shape) → so_far ++ plain_fields ps c ms j ≡ plain_fields whole c ms 0 → i < j → shape_at whole i ≡ Some f → find i so_far ≡ plain f c (find i ms)
plain_found ps whole c ms so_far i j f e lt is =
    sym (find_front i so_far (plain_fields ps c ms j) (plain_from ps c ms i j lt)) ∙ ap (find i) e ∙ plain_at whole c ms i 0 i f (omega arith) is

-- the early fields count the same
pub plain_counts : (by : CountField) (ps whole : Fields) (c : CountField → ℕ) (ms so_far : List (ℕ × Value)) (j : ℕ) → so_far ++ plain_fields ps c ms j ≡ plain_fields whole c ms 0
    → CountsEarly whole j by → count_in whole ms by ≡ count_in whole so_far by
unfolding plain plain_fields
plain_counts (Own name) ps whole c ms so_far j e (bits, r) =
    let there : find r.i so_far ≡ plain (UInt bits) c (find r.i ms) = plain_found ps whole c ms so_far r.i j (UInt bits) e r.low r.is in
    rw (r.found, there) (sym (number_plain (number (find r.i ms))))
plain_counts (Inside name inner) ps whole c ms so_far j e (qs, r, (bits, s)) =
    let inside = members (find r.i ms) in
    let counts = count_in qs inside in
    let there : find r.i so_far ≡ group_value (plain_fields qs counts inside 0) = plain_found ps whole c ms so_far r.i j (Struct qs) e r.low r.is in
    let deep : find s.i (plain_fields qs counts inside 0) ≡ plain (UInt bits) counts (find s.i inside) = plain_at qs counts inside s.i 0 s.i (UInt bits) (omega arith) s.is in
    rw (r.found, r.named, s.found, there, members_group (plain_fields qs counts inside 0), deep) (sym (number_plain (number (find s.i inside))))
