-- How many bytes a shape takes where no array in it is counted, and that it is read from so many.
use Rattle.std.proofs.Common.{◌≡◌, ◌≤◌, ◌<◌, ◌+◌, ◌-◌, ◌*◌, ◌^◌, ℕ, zero, suc, Bool, false, true, ◌&&◌, List, [], ◌∷◌, ◌++◌}
use Rattle.std.proofs.Common.{length, take, drop, length-drop, Ok, refl, sym, ap, ◌∙◌, subst, arith}
use Rattle.std.proofs.lemmas.Bool.{and_parts}
use Rattle.std.proofs.lemmas.List.{drop-drop}
use Rattle.byteorder.specs.Endian.{little_bytes, little_number}
use Rattle.byteorder.specs.Numbers.{little_number-reads_back}
use Rattle.ng_shape.specs.Shape.{Shape, Nothing, UInt, Int, Hex, Str, Ether, Struct, Array, Counted, Fields, no_fields, field}
use Rattle.ng_shape.specs.Shape.{CountField}
use Rattle.ng_shape.specs.Values.{Value, Absent, count_in}
use Rattle.ng_shape.specs.Layout.{width, gap, end_gap, ends_counted, counts_nothing}
use Rattle.ng_shape.specs.Decoding.{Read, ◌>>=◌, take_exactly, given, number_value, text_value, address_value, group_value}
use Rattle.ng_shape.specs.Decoding.{before_nul, number_in, text_in, address_in, array_in, read_end, value_in, read_fields}
use Rattle.ng_shape.specs.Decoding.{value_from}
use Rattle.ng_shape.proofs.Reading.{take_exactly_ok}
use Rattle.ng_laws.specs.answers.Answers.{HasLayout}

-- k elements one after another, the first at a place, each of as many bytes as f says of its place
abbrev pub row_size : (ℕ → ℕ) → ℕ → ℕ → ℕ
row_size f zero at = 0
row_size f (suc k) at = f at + row_size f k (at + f at)

-- the bytes of a shape at a place of its structure, with the padding before it
abbrev mutual
  pub size_at : Shape → ℕ → ℕ
  size_at Nothing at = 0
  size_at (UInt bits) at = gap (width bits) at + width bits
  size_at (Int bits) at = gap (width bits) at + width bits
  size_at (Hex bits) at = gap (width bits) at + width bits
  size_at (Str n) at = n
  size_at Ether at = 6
  size_at (Struct fs) at = fields_size fs 0 + end_gap fs (fields_size fs 0)
  size_at (Array n s) at = row_size (size_at s) n at
  size_at (Counted by max s) at = 0

  pub fields_size : Fields → ℕ → ℕ
  fields_size no_fields at = 0
  fields_size (field name s fs) at = size_at s at + fields_size fs (at + size_at s at)

-- no array in it is counted
abbrev mutual
  pub is_fixed : Shape → Bool
  is_fixed (Struct fs) = are_fixed fs
  is_fixed (Array n s) = is_fixed s
  is_fixed (Counted by max s) = false
  is_fixed _ = true

  pub are_fixed : Fields → Bool
  are_fixed no_fields = true
  are_fixed (field name s fs) = is_fixed s && are_fixed fs

-- a reader reads something from the first k bytes
pub record Takes {A : Type 0} (k : ℕ) (bytes : List ℕ) (read : Read A) : Type 0 where
  pub value : A
  pub is : read ≡ Ok (value, drop k bytes)

takes_on : {A B : Type 0} (j k : ℕ) (bytes : List ℕ) (r : Read A) (g : A × List ℕ → Read B) (t : Takes j bytes r)
    → Takes k (drop j bytes) (g (t.value, drop j bytes)) → Takes (j + k) bytes (r >>= g)
takes_on {A = A} {B = B} j k bytes r g t u = record {
  value = u.value;
  is = ap (λ (x : Read A). x >>= g) t.is ∙ u.is ∙ ap (λ (b : List ℕ). Ok (u.value, b)) (drop-drop k j bytes);
}

takes_map : {A B : Type 0} (k : ℕ) (bytes : List ℕ) (r : Read A) (f : A → B) → Takes k bytes r
    → Takes k bytes (r >>= λ x. Ok (f x.0, x.1))
takes_map {A = A} k bytes r f t = record { value = f t.value; is = ap (λ (x : Read A). x >>= λ y. Ok (f y.0, y.1)) t.is }

nothing_left : (k : ℕ) (bytes : List ℕ) → length bytes ≡ k → drop k bytes ≡ []
nothing_left zero [] e = refl
nothing_left zero (x ∷ bytes) e = absurd (omega arith)
nothing_left (suc k) [] e = refl
nothing_left (suc k) (x ∷ bytes) e = nothing_left k bytes (omega arith)

exact_takes : (n : ℕ) (bytes : List ℕ) → n ≤ length bytes → Takes n bytes (take_exactly n bytes)
exact_takes n bytes le = record { value = take n bytes; is = take_exactly_ok n bytes le }

number_takes : (w front at : ℕ) (bytes : List ℕ) → at + length bytes ≡ front → gap w at + w ≤ length bytes
    → Takes (gap w at + w) bytes (number_in w front bytes)
unfolding number_in
number_takes w front at bytes e le =
    let place : at ≡ front - length bytes = omega arith in
    let before : gap w (front - length bytes) ≡ gap w at = ap (gap w) (sym place) in
    rw before (takes_on (gap w at) w bytes (take_exactly (gap w at) bytes) _ (exact_takes (gap w at) bytes (omega arith))
    (takes_map w (drop (gap w at) bytes) (take_exactly w (drop (gap w at) bytes)) (λ x. number_value (little_number w x))
    (exact_takes w (drop (gap w at) bytes) (omega (arith, length-drop (gap w at) bytes)))))

text_takes : (n : ℕ) (bytes : List ℕ) → n ≤ length bytes → Takes n bytes (text_in n bytes)
unfolding text_in
text_takes n bytes le = takes_map n bytes (take_exactly n bytes) (λ x. text_value (before_nul x)) (exact_takes n bytes le)

address_takes : (bytes : List ℕ) → 6 ≤ length bytes → Takes 6 bytes (address_in bytes)
unfolding address_in
address_takes bytes le = takes_map 6 bytes (take_exactly 6 bytes) (λ x. address_value x) (exact_takes 6 bytes le)

-- elements of which each takes as many bytes as f says of its place
array_takes : (element : List ℕ → Read Value) (front : ℕ) (f : ℕ → ℕ)
    → ((at : ℕ) (bs : List ℕ) → at + length bs ≡ front → f at ≤ length bs → Takes (f at) bs (element bs))
    → (k i at : ℕ) (so_far : List (ℕ × Value)) (bytes : List ℕ) → at + length bytes ≡ front
    → row_size f k at ≤ length bytes → Takes (row_size f k at) bytes (array_in element i k so_far bytes)
unfolding array_in
array_takes element front f each zero i at so_far bytes e le = record { value = so_far; is = refl }
array_takes element front f each (suc k) i at so_far bytes e le =
    let t = each at bytes e (omega arith) in
    let less = length-drop (f at) bytes in
    takes_on (f at) (row_size f k (at + f at)) bytes (element bytes) _ t
    (array_takes element front f each k (i + 1) (at + f at) (so_far ++ given i t.value) (drop (f at) bytes)
    (omega arith) (omega arith))

-- a structure's end
end_takes : (fs : Fields) (k : ℕ) (bytes : List ℕ) (fields : Read (List (ℕ × Value))) → k + end_gap fs k ≤ length bytes
    → Takes k bytes fields → Takes (k + end_gap fs k) bytes (read_end fs bytes fields)
end_takes fs k bytes fields le t =
    let less = length-drop k bytes in
    let had : k ≡ length bytes - length (drop k bytes) = omega arith in
    takes_on k (end_gap fs k) bytes fields _ t
    (subst (λ (n : ℕ). Takes (end_gap fs k) (drop k bytes)
    (take_exactly (end_gap fs n) (drop k bytes) >>= λ x. Ok (group_value t.value, x.1))) had
    (takes_map (end_gap fs k) (drop k bytes) (take_exactly (end_gap fs k) (drop k bytes)) (λ x. group_value t.value)
    (exact_takes (end_gap fs k) (drop k bytes) (omega arith))))

mutual
  unfolding value_in read_fields

  pub value_takes : (s : Shape) (count : CountField → ℕ) (front at : ℕ) (bytes : List ℕ) → is_fixed s ≡ true
      → at + length bytes ≡ front → size_at s at ≤ length bytes → Takes (size_at s at) bytes (value_in s count front bytes)
  value_takes Nothing count front at bytes fixed e le = record { value = Absent; is = refl }
  value_takes (UInt bits) count front at bytes fixed e le = number_takes (width bits) front at bytes e le
  value_takes (Int bits) count front at bytes fixed e le = number_takes (width bits) front at bytes e le
  value_takes (Hex bits) count front at bytes fixed e le = number_takes (width bits) front at bytes e le
  value_takes (Str n) count front at bytes fixed e le = text_takes n bytes le
  value_takes Ether count front at bytes fixed e le = address_takes bytes le
  value_takes (Struct fs) count front at bytes fixed e le =
      end_takes fs (fields_size fs 0) bytes _ le (fields_take fs fs 0 [] (length bytes) 0 bytes fixed (omega arith) (omega arith))
  value_takes (Array n s) count front at bytes fixed e le =
      takes_map (row_size (size_at s) n at) bytes _ group_value
      (array_takes (value_in s count front) front (size_at s)
      (λ place bs is lt. value_takes s count front place bs fixed is lt) n 0 at [] bytes e le)
  value_takes (Counted by max s) count front at bytes fixed e le = absurd (cc fixed)

  fields_take : (fs whole : Fields) (i : ℕ) (so_far : List (ℕ × Value)) (front at : ℕ) (bytes : List ℕ)
      → are_fixed fs ≡ true → at + length bytes ≡ front → fields_size fs at ≤ length bytes
      → Takes (fields_size fs at) bytes (read_fields whole fs i so_far front bytes)
  fields_take no_fields whole i so_far front at bytes fixed e le = record { value = so_far; is = refl }
  fields_take (field name s fs) whole i so_far front at bytes fixed e le =
      let both = and_parts (is_fixed s) (are_fixed fs) fixed in
      let t = value_takes s (count_in whole so_far) front at bytes both.0 e (omega arith) in
      let less = length-drop (size_at s at) bytes in
      takes_on (size_at s at) (fields_size fs (at + size_at s at)) bytes (value_in s (count_in whole so_far) front bytes) _ t
      (fields_take fs whole (i + 1) (so_far ++ given i t.value) front (at + size_at s at)
      (drop (size_at s at) bytes) both.1 (omega arith) (omega arith))

-- a structure takes the same bytes wherever it is
pub struct_takes : (fs : Fields) (count : CountField → ℕ) (front : ℕ) (bytes : List ℕ) → are_fixed fs ≡ true
    → size_at (Struct fs) 0 ≤ length bytes
    → Takes (size_at (Struct fs) 0) bytes (value_in (Struct fs) count front bytes)
unfolding value_in
struct_takes fs count front bytes fixed le =
    end_takes fs (fields_size fs 0) bytes _ le (fields_take fs fs 0 [] (length bytes) 0 bytes fixed (omega arith) (omega arith))

pub address_each : (count : CountField → ℕ) (front : ℕ) (bytes : List ℕ) → 6 ≤ length bytes
    → Takes 6 bytes (value_in Ether count front bytes)
unfolding value_in
address_each count front bytes le = address_takes bytes le

-- Whole bytes

-- what is read of them all has their layout
pub whole_layout : (s : Shape) (bytes : List ℕ) (v : Value)
    → value_in s counts_nothing (length bytes) bytes ≡ Ok (v, []) → HasLayout s bytes
unfolding value_from
whole_layout s bytes v e = rw e refl

pub fixed_layout : (s : Shape) (bytes : List ℕ) → is_fixed s ≡ true → length bytes ≡ size_at s 0 → HasLayout s bytes
fixed_layout s bytes fixed e =
    let t = value_takes s counts_nothing (length bytes) 0 bytes fixed (omega arith) (omega arith) in
    whole_layout s bytes t.value (t.is ∙ ap (λ (b : List ℕ). Ok (t.value, b)) (nothing_left (size_at s 0) bytes (omega arith)))

-- Counted arrays

-- elements that take w bytes each
pub row_takes : (element : List ℕ → Read Value) (w : ℕ) → ((bs : List ℕ) → w ≤ length bs → Takes w bs (element bs))
    → (k i : ℕ) (so_far : List (ℕ × Value)) (bytes : List ℕ) → k * w ≤ length bytes
    → Takes (k * w) bytes (array_in element i k so_far bytes)
unfolding array_in
row_takes element w each zero i so_far bytes le = let none : 0 * w ≡ 0 = omega arith in
    rw none (record { value = so_far; is = refl })
row_takes element w each (suc k) i so_far bytes le =
    let split : suc k * w ≡ w + k * w = omega arith in
    let t = each bytes (omega arith) in
    let less = length-drop w bytes in
    rw split (takes_on w (k * w) bytes (element bytes) _ t
    (row_takes element w each k (i + 1) (so_far ++ given i t.value) (drop w bytes) (omega arith)))

-- a field is read, and the others follow
pub field_on : (whole : Fields) (name : List ℕ) (s : Shape) (fs : Fields) (i : ℕ) (so_far : List (ℕ × Value))
    (front : ℕ) (bytes rest : List ℕ) (v : Value)
    → value_in s (count_in whole so_far) front bytes ≡ Ok (v, rest)
    → read_fields whole (field name s fs) i so_far front bytes ≡ read_fields whole fs (i + 1) (so_far ++ given i v) front rest
unfolding read_fields
field_on whole name s fs i so_far front bytes rest v e =
    ap (λ (x : Read Value). x >>= λ y. read_fields whole fs (i + 1) (so_far ++ given i y.0) front y.1) e

-- a structure whose fields are read, with no padding behind them
pub struct_read : (fs : Fields) (count : CountField → ℕ) (front : ℕ) (bytes : List ℕ) (xs : List (ℕ × Value))
    (rest : List ℕ) → end_gap fs (length bytes - length rest) ≡ 0
    → read_fields fs fs 0 [] (length bytes) bytes ≡ Ok (xs, rest)
    → value_in (Struct fs) count front bytes ≡ Ok (group_value xs, rest)
unfolding value_in
struct_read fs count front bytes xs rest none e = rw (e, none, take_exactly_ok 0 rest (omega arith)) refl

-- an integer that needs no padding before it
number_first : (w front : ℕ) (bytes : List ℕ) → gap w (front - length bytes) ≡ 0 → w ≤ length bytes
    → number_in w front bytes ≡ Ok (number_value (little_number w (take w bytes)), drop w bytes)
unfolding number_in
number_first w front bytes e le = rw (e, take_exactly_ok 0 bytes (omega arith), take_exactly_ok w bytes le) refl

-- an integer of four bytes at a multiple of four
pub number_here : (count : CountField → ℕ) (front at n : ℕ) (rest : List ℕ) → at + (4 + length rest) ≡ front
    → gap 4 at ≡ 0 → n < 2 ^ 32
    → value_in (UInt 32) count front (little_bytes 4 n ++ rest) ≡ Ok (number_value n, rest)
unfolding value_in
number_here count front at n rest e none lt =
    let place : front - length (little_bytes 4 n ++ rest) ≡ at = omega arith in
    let back = little_number-reads_back 4 n [] (omega arith) in
    number_first 4 front (little_bytes 4 n ++ rest) (ap (gap 4) place ∙ none) (omega arith)
    ∙ ap (λ (x : ℕ). Ok (number_value x, rest)) back

-- a structure whose last field is a counted array: its other fields are read, and the rest is as many elements as they say
pub counted_layout : (whole : Fields) (name : List ℕ) (by : CountField) (max : ℕ) (s : Shape) (i : ℕ)
    (so_far : List (ℕ × Value)) (bytes rest : List ℕ) (n w : ℕ)
    → ends_counted whole ≡ true
    → ((count : CountField → ℕ) (front : ℕ) (bs : List ℕ) → w ≤ length bs → Takes w bs (value_in s count front bs))
    → read_fields whole whole 0 [] (length bytes) bytes ≡ read_fields whole
    (field name (Counted by max s) no_fields) i so_far (length bytes) rest
    → count_in whole so_far by ≡ n → length rest ≡ n * w → HasLayout (Struct whole) bytes
unfolding value_in read_fields
counted_layout whole name by max s i so_far bytes rest n w ends each before counts size =
    let t = row_takes (value_in s (count_in whole so_far) (length bytes)) w
    (each (count_in whole so_far) (length bytes)) (count_in whole so_far by) 0 [] rest (rw counts (omega arith)) in
    let left : drop (count_in whole so_far by * w) rest ≡ [] =
    nothing_left (count_in whole so_far by * w) rest (rw counts size) in
    let array : read_fields whole (field name (Counted by max s) no_fields) i so_far (length bytes) rest ≡ Ok
    (so_far ++ given i (group_value t.value), []) =
    rw (t.is, left) refl in
    let none : end_gap whole (length bytes - 0) ≡ 0 = rw ends refl in
    let xs = so_far ++ given i (group_value t.value) in
    whole_layout (Struct whole) bytes (group_value xs) (struct_read whole counts_nothing (length bytes) bytes xs [] none
    (before ∙ array))
