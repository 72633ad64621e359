-- Values that have the same bytes: they differ in places alone, and in the order in which members were given.
use Rattle.std.proofs.Common.{◌≡◌, ◌+◌, ℕ, zero, suc, List, ◌++◌, length, Option, Some, None, refl, ap, inl, inr, arith}
use Rattle.std.specs.Str.{bytes_eq}
use Rattle.ng_shape.specs.Shape.{Shape, Nothing, UInt, Int, Hex, Str, Ether, Struct, Array, Counted, Fields, no_fields, field, CountField, Own}
use Rattle.ng_shape.specs.Shape.{Inside, one_more, field_number, shape_named, fields_inside}
use Rattle.ng_shape.specs.Values.{Value, number, chars, members, find, find_if, find_named, count_in}
use Rattle.ng_shape.specs.Layout.{text_bytes, array_bytes, layout, fields_bytes, pad_end}
use Rattle.ng_shape.proofs.Lookups.{bool_cases}

abbrev mutual
  pub Like : Shape → Value → Value → Type 0
  Like Nothing v w = number v ≡ number w
  Like (UInt bits) v w = number v ≡ number w
  Like (Int bits) v w = number v ≡ number w
  Like (Hex bits) v w = number v ≡ number w
  Like (Str n) v w = (number v ≡ number w) × (chars v ≡ chars w)
  Like Ether v w = (number v ≡ number w) × (text_bytes 6 (chars v) ≡ text_bytes 6 (chars w))
  Like (Struct ps) v w = (number v ≡ number w) × LikeFields ps (members v) (members w) 0
  Like (Array n f) v w = (number v ≡ number w) × ((j : ℕ) → Like f (find j (members v)) (find j (members w)))
  Like (Counted by max f) v w = (number v ≡ number w) × ((j : ℕ) → Like f (find j (members v)) (find j (members w)))

  pub LikeFields : Fields → List (ℕ × Value) → List (ℕ × Value) → ℕ → Type 0
  LikeFields no_fields ms ks i = Unit {0}
  LikeFields (field name f ps) ms ks i = Like f (find i ms) (find i ks) × LikeFields ps ms ks (i + 1)

mutual
  pub like_same : (f : Shape) (v : Value) → Like f v v
  like_same Nothing v = refl
  like_same (UInt bits) v = refl
  like_same (Int bits) v = refl
  like_same (Hex bits) v = refl
  like_same (Str n) v = (refl, refl)
  like_same Ether v = (refl, refl)
  like_same (Struct ps) v = (refl, fields_same ps (members v) 0)
  like_same (Array n f) v = (refl, λ j. like_same f (find j (members v)))
  like_same (Counted by max f) v = (refl, λ j. like_same f (find j (members v)))

  fields_same : (ps : Fields) (ms : List (ℕ × Value)) (i : ℕ) → LikeFields ps ms ms i
  fields_same no_fields ms i = tt
  fields_same (field name f ps) ms i = (like_same f (find i ms), fields_same ps ms (i + 1))

pub like_number : (f : Shape) (v w : Value) → Like f v w → number v ≡ number w
like_number Nothing v w like = like
like_number (UInt bits) v w like = like
like_number (Int bits) v w like = like
like_number (Hex bits) v w like = like
like_number (Str n) v w like = like.0
like_number Ether v w like = like.0
like_number (Struct ps) v w like = like.0
like_number (Array n f) v w like = like.0
like_number (Counted by max f) v w like = like.0

-- ---- counts

abbrev pub shifted : ℕ → Option ℕ → Option ℕ
shifted i None = None
shifted i (Some k) = Some (k + i)

pub shifted_more : (i : ℕ) (o : Option ℕ) → shifted i (one_more o) ≡ shifted (i + 1) o
shifted_more i None = refl
shifted_more i (Some k) = let same : suc k + i ≡ k + (i + 1) = omega arith in ap (λ (n : ℕ). Some n) same

pub shifted_none : (o : Option ℕ) → shifted 0 o ≡ o
shifted_none None = refl
shifted_none (Some k) = let same : k + 0 ≡ k = omega arith in ap (λ (n : ℕ). Some n) same

-- what the name finds among the fields from number i on
number_found : (ps : Fields) (name : List ℕ) (ms ks : List (ℕ × Value)) (i : ℕ) → LikeFields ps ms ks i → number (find_if (shifted i (field_number ps name)) ms) ≡ number (find_if (shifted i (field_number ps name)) ks)
number_found no_fields name ms ks i like = refl
number_found (field n f ps) name ms ks i like =
    elim (bool_cases (bytes_eq n name)) [
      | inl hit ↦ let here : 0 + i ≡ i = omega arith in rw (hit, here) (like_number f (find i ms) (find i ks) like.0)
      | inr miss ↦ rw (miss, shifted_more i (field_number ps name)) (number_found ps name ms ks (i + 1) like.1)
    ]

inside_of : (f : Shape) (v w : Value) → Like f v w → LikeFields (fields_inside (Some f)) (members v) (members w) 0
inside_of Nothing v w like = tt
inside_of (UInt bits) v w like = tt
inside_of (Int bits) v w like = tt
inside_of (Hex bits) v w like = tt
inside_of (Str n) v w like = tt
inside_of Ether v w like = tt
inside_of (Struct ps) v w like = like.1
inside_of (Array n f) v w like = tt
inside_of (Counted by max f) v w like = tt

inside_found : (ps : Fields) (name : List ℕ) (ms ks : List (ℕ × Value)) (i : ℕ) → LikeFields ps ms ks i
    → LikeFields (fields_inside (shape_named ps name)) (members (find_if (shifted i (field_number ps name)) ms)) (members (find_if (shifted i (field_number ps name)) ks)) 0
inside_found no_fields name ms ks i like = tt
inside_found (field n f ps) name ms ks i like =
    elim (bool_cases (bytes_eq n name)) [
      | inl hit ↦ let here : 0 + i ≡ i = omega arith in rw (hit, here) (inside_of f (find i ms) (find i ks) like.0)
      | inr miss ↦ rw (miss, shifted_more i (field_number ps name)) (inside_found ps name ms ks (i + 1) like.1)
    ]

number_named : (ps : Fields) (name : List ℕ) (ms ks : List (ℕ × Value)) → LikeFields ps ms ks 0 → number (find_named ps name ms) ≡ number (find_named ps name ks)
number_named ps name ms ks like = rw (shifted_none (field_number ps name)) at (number_found ps name ms ks 0 like)

pub count_like : (ps : Fields) (ms ks : List (ℕ × Value)) → LikeFields ps ms ks 0 → (by : CountField) → count_in ps ms by ≡ count_in ps ks by
count_like ps ms ks like (Own name) = number_named ps name ms ks like
count_like ps ms ks like (Inside name inner) =
    number_named (fields_inside (shape_named ps name)) inner (members (find_named ps name ms)) (members (find_named ps name ks)) (rw (shifted_none (field_number ps name)) at (inside_found ps name ms ks 0 like))

-- ---- bytes

arrays_like : (p q : Value → ℕ → List ℕ) (ms ks : List (ℕ × Value)) (k i at : ℕ) → ((j at : ℕ) → p (find j ms) at ≡ q (find j ks) at) → array_bytes p ms i k at ≡ array_bytes q ks i k at
unfolding array_bytes
arrays_like p q ms ks zero i at each = refl
arrays_like p q ms ks (suc k) i at each = rw (each i at) (ap (λ (x : List ℕ). q (find i ks) at ++ x) (arrays_like p q ms ks k (i + 1) (at + length (q (find i ks) at)) each))

mutual
  unfolding layout fields_bytes

  pub layout_like : (f : Shape) (c d : CountField → ℕ) (v w : Value) (at : ℕ) → ((by : CountField) → c by ≡ d by) → Like f v w → layout f c v at ≡ layout f d w at
  layout_like Nothing c d v w at same like = refl
  layout_like (UInt bits) c d v w at same like = rw like refl
  layout_like (Int bits) c d v w at same like = rw like refl
  layout_like (Hex bits) c d v w at same like = rw like refl
  layout_like (Str n) c d v w at same like = rw like.1 refl
  layout_like Ether c d v w at same like = like.1
  layout_like (Struct ps) c d v w at same like =
      ap (pad_end ps) (fields_like ps (count_in ps (members v)) (count_in ps (members w)) (members v) (members w) 0 0 (count_like ps (members v) (members w) like.1) like.1)
  layout_like (Array n f) c d v w at same like = arrays_like (layout f c) (layout f d) (members v) (members w) n 0 at (λ j at. layout_like f c d (find j (members v)) (find j (members w)) at same (like.1 j))
  layout_like (Counted by max f) c d v w at same like =
      rw (same by) (arrays_like (layout f c) (layout f d) (members v) (members w) (d by) 0 at (λ j at. layout_like f c d (find j (members v)) (find j (members w)) at same (like.1 j)))

  fields_like : (ps : Fields) (c d : CountField → ℕ) (ms ks : List (ℕ × Value)) (i at : ℕ) → ((by : CountField) → c by ≡ d by) → LikeFields ps ms ks i → fields_bytes ps c ms i at ≡ fields_bytes ps d ks i at
  fields_like no_fields c d ms ks i at same like = refl
  fields_like (field name f ps) c d ms ks i at same like =
      rw (layout_like f c d (find i ms) (find i ks) at same like.0) (ap (λ (x : List ℕ). layout f d (find i ks) at ++ x) (fields_like ps c d ms ks (i + 1) (at + length (layout f d (find i ks) at)) same like.1))
