-- Where bytes are read as a shape without a counted array, exactly as many are taken as the shape says.
-- to move to ng_shape
use Rattle.std.proofs.Common.{◌≡◌, ◌≤◌, ◌+◌, ◌-◌, ℕ, zero, suc, true, List, [], ◌++◌}
use Rattle.std.proofs.Common.{length, drop, length-drop, Ok, Err, IfOk, refl, ap, ◌∙◌, subst, inl, inr, arith}
use Rattle.std.proofs.lemmas.Bool.{and_parts, cases_lt}
use Rattle.std.proofs.lemmas.List.{drop-drop}
use Rattle.byteorder.specs.Endian.{little_number}
use Rattle.ng_shape.specs.Shape.{Shape, Nothing, UInt, Int, Hex, Str, Ether, Struct, Array, Counted, Fields, no_fields, field}
use Rattle.ng_shape.specs.Shape.{CountField}
use Rattle.ng_shape.specs.Values.{Value, count_in}
use Rattle.ng_shape.specs.Layout.{width, gap, end_gap}
use Rattle.ng_shape.specs.Decoding.{Read, ◌>>=◌, take_exactly, given, number_value, text_value, address_value, group_value}
use Rattle.ng_shape.specs.Decoding.{before_nul, number_in, text_in, address_in, array_in, read_end, value_in, read_fields}
use Rattle.ng_shape.proofs.Reading.{take_exactly_ok, take_exactly_short}
use Rattle.ng_laws.proofs.answers.Sizes.{row_size, size_at, fields_size, is_fixed, are_fixed}

-- the first k bytes are there, and the rest stands behind them
pub record Took (k : ℕ) (bytes rest : List ℕ) : Type 0 where
  pub there : k ≤ length bytes
  pub is : rest ≡ drop k bytes

-- where a reader reads something, it takes exactly the first k bytes
abbrev pub Uses : {A : Type 0} → ℕ → List ℕ → Read A → Type 0
Uses k bytes r = IfOk r (λ x. Took k bytes x.1)

took_none : (bytes : List ℕ) → Took 0 bytes bytes
took_none bytes = record { there = omega arith; is = refl }

pub took_on : (j k : ℕ) (bytes middle rest : List ℕ) → Took j bytes middle → Took k middle rest → Took (j + k) bytes rest
took_on j k bytes middle rest a b = record {
  there = omega (arith, a.there, b.there, ap length a.is, length-drop j bytes);
  is = b.is ∙ ap (drop k) a.is ∙ drop-drop k j bytes;
}

pub took_left : (k : ℕ) (bytes rest : List ℕ) → Took k bytes rest → length rest + k ≡ length bytes
took_left k bytes rest t = omega (arith, t.there, ap length t.is, length-drop k bytes)

pub uses_after : {A : Type 0} (j k : ℕ) (bytes middle : List ℕ) (r : Read A) → Took j bytes middle → Uses k middle r → Uses (j + k) bytes r
uses_after j k bytes middle (Ok x) t u = took_on j k bytes middle x.1 t u
uses_after j k bytes middle (Err m) t u = tt

pub uses_on : {A B : Type 0} (j k : ℕ) (bytes : List ℕ) (r : Read A) (f : A × List ℕ → Read B) → Uses j bytes r
    → ((x : A × List ℕ) → Took j bytes x.1 → Uses k x.1 (f x)) → Uses (j + k) bytes (r >>= f)
uses_on j k bytes (Ok x) f u h = uses_after j k bytes x.1 (f x) u (h x u)
uses_on j k bytes (Err m) f u h = tt

pub uses_map : {A B : Type 0} (k : ℕ) (bytes : List ℕ) (r : Read A) (f : A → B) → Uses k bytes r → Uses k bytes (r >>= λ x. Ok (f x.0, x.1))
uses_map k bytes (Ok x) f u = u
uses_map k bytes (Err m) f u = tt

exact_uses : (n : ℕ) (bytes : List ℕ) → Uses n bytes (take_exactly n bytes)
exact_uses n bytes = elim (cases_lt (length bytes) n) [
  | inl lt ↦ rw (take_exactly_short n bytes lt) tt
  | inr le ↦ rw (take_exactly_ok n bytes le) (record { there = le; is = refl })
]

number_uses : (w front at : ℕ) (bytes : List ℕ) → at + length bytes ≡ front → Uses (gap w at + w) bytes (number_in w front bytes)
unfolding number_in
number_uses w front at bytes e =
    let place : front - length bytes ≡ at = omega arith in
    let before : gap w (front - length bytes) ≡ gap w at = ap (gap w) place in
    rw before
    (uses_on (gap w at) w bytes (take_exactly (gap w at) bytes) _ (exact_uses (gap w at) bytes)
    (λ x t. uses_map w x.1 (take_exactly w x.1) (λ y. number_value (little_number w y)) (exact_uses w x.1)))

text_uses : (n : ℕ) (bytes : List ℕ) → Uses n bytes (text_in n bytes)
unfolding text_in
text_uses n bytes = uses_map n bytes (take_exactly n bytes) (λ x. text_value (before_nul x)) (exact_uses n bytes)

address_uses : (bytes : List ℕ) → Uses 6 bytes (address_in bytes)
unfolding address_in
address_uses bytes = uses_map 6 bytes (take_exactly 6 bytes) (λ x. address_value x) (exact_uses 6 bytes)

-- elements of which each takes as many bytes as f says of its place
array_uses : (element : List ℕ → Read Value) (front : ℕ) (f : ℕ → ℕ)
    → ((at : ℕ) (bs : List ℕ) → at + length bs ≡ front → Uses (f at) bs (element bs))
    → (k i at : ℕ) (so_far : List (ℕ × Value)) (bytes : List ℕ) → at + length bytes ≡ front
    → Uses (row_size f k at) bytes (array_in element i k so_far bytes)
unfolding array_in
array_uses element front f each zero i at so_far bytes e = took_none bytes
array_uses element front f each (suc k) i at so_far bytes e =
    uses_on (f at) (row_size f k (at + f at)) bytes (element bytes) _ (each at bytes e)
    (λ x t. array_uses element front f each k (i + 1) (at + f at) (so_far ++ given i x.0) x.1 (omega (arith, took_left (f at) bytes x.1 t)))

-- a structure's end
pub end_uses : (fs : Fields) (k : ℕ) (bytes : List ℕ) (fields : Read (List (ℕ × Value))) → Uses k bytes fields
    → Uses (k + end_gap fs k) bytes (read_end fs bytes fields)
end_uses fs k bytes fields u =
    uses_on k (end_gap fs k) bytes fields _ u
    (λ x t.
    let had : k ≡ length bytes - length x.1 = omega (arith, took_left k bytes x.1 t) in
    subst (λ (n : ℕ). Uses (end_gap fs k) x.1 (take_exactly (end_gap fs n) x.1 >>= λ y. Ok (group_value x.0, y.1))) had
    (uses_map (end_gap fs k) x.1 (take_exactly (end_gap fs k) x.1) (λ y. group_value x.0) (exact_uses (end_gap fs k) x.1)))

mutual
  unfolding value_in read_fields

  pub value_uses : (s : Shape) (count : CountField → ℕ) (front at : ℕ) (bytes : List ℕ) → is_fixed s ≡ true
      → at + length bytes ≡ front → Uses (size_at s at) bytes (value_in s count front bytes)
  value_uses Nothing count front at bytes fixed e = took_none bytes
  value_uses (UInt bits) count front at bytes fixed e = number_uses (width bits) front at bytes e
  value_uses (Int bits) count front at bytes fixed e = number_uses (width bits) front at bytes e
  value_uses (Hex bits) count front at bytes fixed e = number_uses (width bits) front at bytes e
  value_uses (Str n) count front at bytes fixed e = text_uses n bytes
  value_uses Ether count front at bytes fixed e = address_uses bytes
  value_uses (Struct fs) count front at bytes fixed e =
      end_uses fs (fields_size fs 0) bytes _ (fields_use fs fs 0 [] (length bytes) 0 bytes fixed (omega arith))
  value_uses (Array n s) count front at bytes fixed e =
      uses_map (row_size (size_at s) n at) bytes _ group_value
      (array_uses (value_in s count front) front (size_at s) (λ place bs is. value_uses s count front place bs fixed is) n 0 at [] bytes e)
  value_uses (Counted by max s) count front at bytes fixed e = absurd (cc fixed)

  pub fields_use : (fs whole : Fields) (i : ℕ) (so_far : List (ℕ × Value)) (front at : ℕ) (bytes : List ℕ) → are_fixed fs ≡ true
      → at + length bytes ≡ front → Uses (fields_size fs at) bytes (read_fields whole fs i so_far front bytes)
  fields_use no_fields whole i so_far front at bytes fixed e = took_none bytes
  fields_use (field name s fs) whole i so_far front at bytes fixed e =
      let both = and_parts (is_fixed s) (are_fixed fs) fixed in
      uses_on (size_at s at) (fields_size fs (at + size_at s at)) bytes (value_in s (count_in whole so_far) front bytes) _
      (value_uses s (count_in whole so_far) front at bytes both.0 e)
      (λ x t. fields_use fs whole (i + 1) (so_far ++ given i x.0) front (at + size_at s at) x.1 both.1
      (omega (arith, took_left (size_at s at) bytes x.1 t)))
