-- Where fields and members are found.
use Rattle.std.proofs.Common.{◌≡◌, ◌≢◌, ◌≤◌, ◌<◌, ◌+◌, ◌^◌, ℕ, zero, suc, Bool, true, false, eqb, ◌&&◌, not, List, [], ◌∷◌, ◌++◌, Option, Some, None}
use Rattle.std.proofs.Common.{refl, sym, inl, inr, ◌⊎◌, arith}
use Rattle.std.proofs.lemmas.Bool.{and_parts, ltb-true, ne_eqb, eq-eqb}
use Rattle.std.specs.Str.{bytes_eq}
use Rattle.ng_shape.specs.Shape.{Shape, Nothing, UInt, Int, Hex, Str, Ether, Struct, Array, Counted, Fields, no_fields, field, CountField, Own}
use Rattle.ng_shape.specs.Shape.{Inside, field_number, shape_named, fields_inside}
use Rattle.ng_shape.specs.Sound.{first_fields, is_counted_well, can_count, counter_shape, counts, counts_inside}
use Rattle.ng_shape.specs.Values.{Value, Absent, Number, Text, Group, find}
use Rattle.ng_shape.specs.Decoding.{given}

pub bool_cases : (b : Bool) → (b ≡ true) ⊎ (b ≡ false)
bool_cases true = inl refl
bool_cases false = inr refl

-- the shape of that field
abbrev pub shape_at : Fields → ℕ → Option Shape
shape_at no_fields i = None
shape_at (field name f ps) zero = Some f
shape_at (field name f ps) (suc i) = shape_at ps i

-- the name finds field i, which has the shape f
pub record IsNamed (ps : Fields) (name : List ℕ) (f : Shape) : Type 0 where
  pub i : ℕ
  pub found : field_number ps name ≡ Some i
  pub is : shape_at ps i ≡ Some f

-- and it stands before field j
pub record IsEarlier (ps : Fields) (j : ℕ) (name : List ℕ) (f : Shape) : Type 0 where
  pub i : ℕ
  pub low : i < j
  pub found : field_number ps name ≡ Some i
  pub named : shape_named ps name ≡ Some f
  pub is : shape_at ps i ≡ Some f

named_at : (ps : Fields) (name : List ℕ) (f : Shape) → shape_named ps name ≡ Some f → IsNamed ps name f
named_at no_fields name f e = cc
named_at (field n g ps) name f e =
    elim (bool_cases (bytes_eq n name)) [
      | inl hit ↦ let here : Some g ≡ Some f = rw hit at e in record { i = 0; found = rw hit refl; is = here }
      | inr miss ↦ let later = named_at ps name f (rw miss at e) in record { i = suc later.i; found = rw (miss, later.found) refl; is = later.is }
    ]

early : (j : ℕ) (ps : Fields) (name : List ℕ) (f : Shape) → shape_named (first_fields j ps) name ≡ Some f → IsEarlier ps j name f
early zero ps name f e = cc
early (suc j) no_fields name f e = cc
early (suc j) (field n g ps) name f e =
    elim (bool_cases (bytes_eq n name)) [
      | inl hit ↦ let here : Some g ≡ Some f = rw hit at e in record { i = 0; low = omega arith; found = rw hit refl; named = rw hit here; is = here }
      | inr miss ↦ let later = early j ps name f (rw miss at e) in record { i = suc later.i; low = omega (arith, later.low); found = rw (miss, later.found) refl; named = rw miss later.named; is = later.is }
    ]

-- the field that counts stands before field j
abbrev pub CountsEarly : Fields → ℕ → CountField → Type 0
CountsEarly ps j (Own name) = (bits : ℕ) × IsEarlier ps j name (UInt bits)
CountsEarly ps j (Inside name inner) = (qs : Fields) × IsEarlier ps j name (Struct qs) × ((bits : ℕ) × IsNamed qs inner (UInt bits))

pub can_count_bits : (max : ℕ) (o : Option Shape) → can_count max o ≡ true → (bits : ℕ) × (o ≡ Some (UInt bits)) × (max < 2 ^ bits)
can_count_bits max None e = cc
can_count_bits max (Some Nothing) e = cc
can_count_bits max (Some (UInt bits)) e = (bits, refl, ltb-true max (2 ^ bits) e)
can_count_bits max (Some (Int bits)) e = cc
can_count_bits max (Some (Hex bits)) e = cc
can_count_bits max (Some (Str n)) e = cc
can_count_bits max (Some Ether) e = cc
can_count_bits max (Some (Struct ps)) e = cc
can_count_bits max (Some (Array n f)) e = cc
can_count_bits max (Some (Counted by m f)) e = cc

pub inside_is : (o : Option Shape) (inner : List ℕ) (g : Shape) → shape_named (fields_inside o) inner ≡ Some g → (qs : Fields) × (o ≡ Some (Struct qs)) × (shape_named qs inner ≡ Some g)
inside_is None inner g e = cc
inside_is (Some Nothing) inner g e = cc
inside_is (Some (UInt bits)) inner g e = cc
inside_is (Some (Int bits)) inner g e = cc
inside_is (Some (Hex bits)) inner g e = cc
inside_is (Some (Str n)) inner g e = cc
inside_is (Some Ether) inner g e = cc
inside_is (Some (Struct ps)) inner g e = (ps, refl, e)
inside_is (Some (Array n f)) inner g e = cc
inside_is (Some (Counted by m f)) inner g e = cc

-- what an array among the fields is counted by
counter_counts : (ps : Fields) (by : CountField) (max : ℕ) (f : Shape) → is_counted_well ps (Counted by max f) ≡ true → (bits : ℕ) × (counter_shape ps by ≡ Some (UInt bits))
counter_counts ps by max f e =
    let both = and_parts (can_count max (counter_shape ps by) && not (counts by ps)) (not (counts_inside by ps)) e in
    let first = and_parts (can_count max (counter_shape ps by)) (not (counts by ps)) both.0 in
    let (bits, is, low) = can_count_bits max (counter_shape ps by) first.0 in
    (bits, is)

pub counter_early : (by : CountField) (ps : Fields) (j max : ℕ) (f : Shape) → is_counted_well (first_fields j ps) (Counted by max f) ≡ true → CountsEarly ps j by
counter_early (Own name) ps j max f e =
    let (bits, is) = counter_counts (first_fields j ps) (Own name) max f e in
    (bits, early j ps name (UInt bits) is)
counter_early (Inside name inner) ps j max f e =
    let (bits, is) = counter_counts (first_fields j ps) (Inside name inner) max f e in
    let (qs, structure, within) = inside_is (shape_named (first_fields j ps) name) inner (UInt bits) is in
    (qs, early j ps name (Struct qs) structure, (bits, named_at qs inner (UInt bits) within))

-- ---- members

pub find_front : (i : ℕ) (xs ys : List (ℕ × Value)) → find i ys ≡ Absent → find i (xs ++ ys) ≡ find i xs
find_front i [] ys e = e
find_front i (x ∷ xs) ys e =
    elim (bool_cases (eqb x.0 i)) [ inl hit ↦ rw hit refl | inr miss ↦ rw miss (find_front i xs ys e) ]

abbrev pub AllBelow : ℕ → List (ℕ × Value) → Type 0
AllBelow i [] = Unit {0}
AllBelow i (m ∷ ms) = (m.0 < i) × AllBelow i ms

abbrev pub AllFrom : ℕ → List (ℕ × Value) → Type 0
AllFrom i [] = Unit {0}
AllFrom i (m ∷ ms) = (i ≤ m.0) × AllFrom i ms

pub find_behind : (i : ℕ) (xs ys : List (ℕ × Value)) → AllBelow i xs → find i (xs ++ ys) ≡ find i ys
find_behind i [] ys a = refl
find_behind i (x ∷ xs) ys a =
    let miss : eqb x.0 i ≡ false = ne_eqb x.0 i (λ e. omega (arith, a.0, e)) in
    rw miss (find_behind i xs ys a.1)

pub find_from : (i j : ℕ) (ms : List (ℕ × Value)) → AllFrom j ms → i < j → find i ms ≡ Absent
find_from i j [] a lt = refl
find_from i j (m ∷ ms) a lt =
    let miss : eqb m.0 i ≡ false = ne_eqb m.0 i (λ e. omega (arith, a.0, e)) in
    rw miss (find_from i j ms a.1 lt)

pub find_given_other : (i j : ℕ) (v : Value) (ys : List (ℕ × Value)) → i ≢ j → find i (given j v ++ ys) ≡ find i ys
find_given_other i j Absent ys ne = refl
find_given_other i j (Number left n) ys ne = let miss : eqb j i ≡ false = ne_eqb j i (λ e. ne (sym e)) in rw miss refl
find_given_other i j (Text bs) ys ne = let miss : eqb j i ≡ false = ne_eqb j i (λ e. ne (sym e)) in rw miss refl
find_given_other i j (Group left ms) ys ne = let miss : eqb j i ≡ false = ne_eqb j i (λ e. ne (sym e)) in rw miss refl

pub find_given_same : (j : ℕ) (v : Value) (ys : List (ℕ × Value)) → find j ys ≡ Absent → find j (given j v ++ ys) ≡ v
find_given_same j Absent ys e = e
find_given_same j (Number left n) ys e = let hit : eqb j j ≡ true = eq-eqb j j refl in rw hit refl
find_given_same j (Text bs) ys e = let hit : eqb j j ≡ true = eq-eqb j j refl in rw hit refl
find_given_same j (Group left ms) ys e = let hit : eqb j j ≡ true = eq-eqb j j refl in rw hit refl

pub below_given : (j : ℕ) (v : Value) (xs : List (ℕ × Value)) → AllBelow j xs → AllBelow (j + 1) (xs ++ given j v)
below_given j Absent [] a = tt
below_given j (Number left n) [] a = (omega arith, tt)
below_given j (Text bs) [] a = (omega arith, tt)
below_given j (Group left ms) [] a = (omega arith, tt)
below_given j v (x ∷ xs) a = (omega (arith, a.0), below_given j v xs a.1)

from_lower : (j : ℕ) (ys : List (ℕ × Value)) → AllFrom (j + 1) ys → AllFrom j ys
from_lower j [] a = tt
from_lower j (y ∷ ys) a = (omega (arith, a.0), from_lower j ys a.1)

pub from_given : (j : ℕ) (v : Value) (ys : List (ℕ × Value)) → AllFrom (j + 1) ys → AllFrom j (given j v ++ ys)
from_given j Absent ys a = from_lower j ys a
from_given j (Number left n) ys a = (omega arith, from_lower j ys a)
from_given j (Text bs) ys a = (omega arith, from_lower j ys a)
from_given j (Group left ms) ys a = (omega arith, from_lower j ys a)

pub not_true : (b : Bool) → not b ≡ true → b ≡ false
not_true true e = cc
not_true false e = refl
