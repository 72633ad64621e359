-- Bytes that are all that a value says, and values that bytes can say.
use Rattle.std.specs.Prelude.{◌≡◌, ℕ, zero, suc, ◌+◌, ◌-◌, ◌^◌, ◌<◌, ◌≤◌, List, [], ◌∷◌, ◌++◌, length, take, drop, Result, IfOk, IsOk}
use Rattle.ng_shape.specs.Shape.{Shape, Nothing, UInt, Int, Hex, Str, Ether, Struct, Array, Counted, Fields, no_fields, field, CountField}
use Rattle.ng_shape.specs.Values.{Value, Absent, number, chars, members, find, count_in}
use Rattle.ng_shape.specs.Layout.{width, gap, end_gap, zeros, text_bytes, counts_nothing}
use Rattle.ng_shape.specs.Decoding.{before_nul, number_value, text_value, address_value, group_value, given, value_in, read_fields, value_from}

-- ---- values

abbrev pub AreBytes : List ℕ → Type 0
AreBytes [] = Unit {0}
AreBytes (c ∷ cs) = (c < 256) × AreBytes cs

-- bytes of a string: none of them is zero
abbrev pub AreChars : List ℕ → Type 0
AreChars [] = Unit {0}
AreChars (c ∷ cs) = (0 < c) × (c < 256) × AreChars cs

-- what holds of each of k elements from number i on
abbrev pub EachFits : (Value → Type 0) → List (ℕ × Value) → ℕ → ℕ → Type 0
EachFits P ms i k = (j : ℕ) → i ≤ j → j < i + k → P (find j ms)

-- A value has room in a shape: numbers are below 2 ^ bits, a string is shorter than its n bytes and has no NUL, an address
-- has no more than 6 bytes, and no count is above its array's greatest length.
abbrev mutual
  pub Fits : Shape → (CountField → ℕ) → Value → Type 0
  Fits Nothing count v = Unit {0}
  Fits (UInt bits) count v = number v < 2 ^ bits
  Fits (Int bits) count v = number v < 2 ^ bits
  Fits (Hex bits) count v = number v < 2 ^ bits
  Fits (Str n) count v = AreChars (chars v) × (length (chars v) < n)
  Fits Ether count v = AreBytes (chars v) × (length (chars v) ≤ 6)
  Fits (Struct fs) count v = FitFields fs (count_in fs (members v)) (members v) 0
  Fits (Array n s) count v = EachFits (Fits s count) (members v) 0 n
  Fits (Counted by max s) count v = (count by ≤ max) × EachFits (Fits s count) (members v) 0 (count by)

  pub FitFields : Fields → (CountField → ℕ) → List (ℕ × Value) → ℕ → Type 0
  FitFields no_fields count ms i = Unit {0}
  FitFields (field name s fs) count ms i = Fits s count (find i ms) × FitFields fs count ms (i + 1)

abbrev pub IsFitting : Shape → Value → Type 0
IsFitting s v = Fits s counts_nothing v

-- k elements from number i on, each as f makes it
abbrev pub plain_array : (Value → Value) → List (ℕ × Value) → ℕ → ℕ → List (ℕ × Value)
plain_array f ms i zero = []
plain_array f ms i (suc k) = given i (f (find i ms)) ++ plain_array f ms (i + 1) k

-- A value as bytes give it back: zeros are nothing, members stand in order, and no place is known.
unfoldable mutual
  pub plain : Shape → (CountField → ℕ) → Value → Value
  plain Nothing count v = Absent
  plain (UInt bits) count v = number_value (number v)
  plain (Int bits) count v = number_value (number v)
  plain (Hex bits) count v = number_value (number v)
  plain (Str n) count v = text_value (chars v)
  plain Ether count v = address_value (text_bytes 6 (chars v))
  plain (Struct fs) count v = group_value (plain_fields fs (count_in fs (members v)) (members v) 0)
  plain (Array n s) count v = group_value (plain_array (plain s count) (members v) 0 n)
  plain (Counted by max s) count v = group_value (plain_array (plain s count) (members v) 0 (count by))

  pub plain_fields : Fields → (CountField → ℕ) → List (ℕ × Value) → ℕ → List (ℕ × Value)
  plain_fields no_fields count ms i = []
  plain_fields (field name s fs) count ms i = given i (plain s count (find i ms)) ++ plain_fields fs count ms (i + 1)

abbrev pub plain_of : Shape → Value → Value
plain_of s v = plain s counts_nothing v

-- ---- bytes

abbrev pub AreZeros : List ℕ → Type 0
AreZeros bytes = bytes ≡ zeros (length bytes)

-- a NUL, and nothing else behind the first
abbrev pub IsPadded : List ℕ → Type 0
IsPadded bytes = (length (before_nul bytes) < length bytes) × AreZeros (drop (length (before_nul bytes)) bytes)

abbrev pub PaddingIsZero : ℕ → ℕ → List ℕ → Type 0
PaddingIsZero w front bytes = AreZeros (take (gap w (front - length bytes)) bytes)

-- what holds at the front of each of k elements
unfoldable pub EachClean : (List ℕ → Type 0) → (List ℕ → Result (Value × List ℕ) ℕ) → ℕ → List ℕ → Type 0
EachClean P element zero bytes = Unit {0}
EachClean P element (suc k) bytes = P bytes × IfOk (element bytes) (λ x. EachClean P element k x.1)

-- At the front of these bytes, along the layout: padding is zero, each string has a NUL and only NULs after the first, and
-- each count is at most its array's greatest length.
unfoldable mutual
  pub IsClean : Shape → (CountField → ℕ) → ℕ → List ℕ → Type 0
  IsClean Nothing count front bytes = Unit {0}
  IsClean (UInt bits) count front bytes = PaddingIsZero (width bits) front bytes
  IsClean (Int bits) count front bytes = PaddingIsZero (width bits) front bytes
  IsClean (Hex bits) count front bytes = PaddingIsZero (width bits) front bytes
  IsClean (Str n) count front bytes = IsPadded (take n bytes)
  IsClean Ether count front bytes = Unit {0}
  IsClean (Struct fs) count front bytes = AreFieldsClean fs fs 0 [] (length bytes) bytes
      × IfOk (read_fields fs fs 0 [] (length bytes) bytes) (λ x. AreZeros (take (end_gap fs (length bytes - length x.1)) x.1))
  IsClean (Array n s) count front bytes = EachClean (IsClean s count front) (value_in s count front) n bytes
  IsClean (Counted by max s) count front bytes = (count by ≤ max) × EachClean (IsClean s count front) (value_in s count front) (count by) bytes

  pub AreFieldsClean : Fields → Fields → ℕ → List (ℕ × Value) → ℕ → List ℕ → Type 0
  AreFieldsClean whole no_fields i so_far front bytes = Unit {0}
  AreFieldsClean whole (field name s fs) i so_far front bytes = IsClean s (count_in whole so_far) front bytes
      × IfOk (value_in s (count_in whole so_far) front bytes) (λ x. AreFieldsClean whole fs (i + 1) (so_far ++ given i x.0) front x.1)

-- The bytes have the layout and the length of the shape, and are clean.
unfoldable pub IsCanonical : Shape → List ℕ → Type 0
IsCanonical s bytes = AreBytes bytes × IsOk (value_from s bytes) × IsClean s counts_nothing (length bytes) bytes
