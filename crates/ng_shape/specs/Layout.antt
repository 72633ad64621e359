-- How values lie in the bytes of a message's arguments (netgraph(4) has structures of C there): fields in order, integers
-- with their lowest byte first, each integer at a multiple of its size from the front of its structure, and a structure
-- padded to a multiple of its widest integer, unless its last field is a counted array. There is no other padding,
-- and padding is zeros.
use Rattle.std.specs.Prelude.{ℕ, zero, suc, ◌+◌, ◌-◌, ◌%◌, max, Bool, false, List, [], ◌++◌, length, take, replicate, ◌==◌, if◌then◌else◌}
use Rattle.byteorder.specs.Endian.{little_bytes}
use Rattle.ng_shape.specs.Shape.{Shape, Nothing, UInt, Int, Hex, Str, Ether, Struct, Array, Counted, Fields, no_fields, field, CountField}
use Rattle.ng_shape.specs.Sound.{is_counted}
use Rattle.ng_shape.specs.Values.{Value, number, chars, members, find, count_in}

-- the bytes of an integer of so many bits
abbrev pub width : ℕ → ℕ
width bits = if bits == 16 then 2 else if bits == 32 then 4 else if bits == 64 then 8 else 1

abbrev mutual
  -- the bytes of the widest integer
  pub widest : Shape → ℕ
  widest Nothing = 1
  widest (UInt bits) = width bits
  widest (Int bits) = width bits
  widest (Hex bits) = width bits
  widest (Str n) = 1
  widest Ether = 1
  widest (Struct fs) = widest_field fs
  widest (Array n s) = widest s
  widest (Counted by max s) = widest s

  pub widest_field : Fields → ℕ
  widest_field no_fields = 1
  widest_field (field n s fs) = max (widest s) (widest_field fs)

-- whether the last field is a counted array
abbrev pub ends_counted : Fields → Bool
ends_counted no_fields = false
ends_counted (field name s no_fields) = is_counted s
ends_counted (field name s (field n g fs)) = ends_counted (field n g fs)

-- what is missing at a place to a multiple of w
abbrev pub gap : ℕ → ℕ → ℕ
gap w at = (w - at % w) % w

-- what is missing at the end of a structure
abbrev pub end_gap : Fields → ℕ → ℕ
end_gap fs size = if ends_counted fs then 0 else gap (widest_field fs) size

abbrev pub zeros : ℕ → List ℕ
zeros n = replicate n 0

abbrev pub number_bytes : ℕ → ℕ → ℕ → List ℕ
number_bytes w at n = zeros (gap w at) ++ little_bytes w n

-- n bytes, those of the text first
abbrev pub text_bytes : ℕ → List ℕ → List ℕ
text_bytes n text = take n text ++ zeros (n - length text)

-- a structure's end, after its fields
abbrev pub pad_end : Fields → List ℕ → List ℕ
pad_end fs bytes = bytes ++ zeros (end_gap fs (length bytes))

-- elements from number i on, k of them
unfoldable pub array_bytes : (Value → ℕ → List ℕ) → List (ℕ × Value) → ℕ → ℕ → ℕ → List ℕ
array_bytes element ms i zero at = []
array_bytes element ms i (suc k) at = let bytes = element (find i ms) at in bytes ++ array_bytes element ms (i + 1) k (at + length bytes)

-- the bytes of a value at a place, counted from the front of its structure, with what fields of that structure count
unfoldable mutual
  pub layout : Shape → (CountField → ℕ) → Value → ℕ → List ℕ
  layout Nothing count v at = []
  layout (UInt bits) count v at = number_bytes (width bits) at (number v)
  layout (Int bits) count v at = number_bytes (width bits) at (number v)
  layout (Hex bits) count v at = number_bytes (width bits) at (number v)
  layout (Str n) count v at = text_bytes n (chars v)
  layout Ether count v at = text_bytes 6 (chars v)
  layout (Struct fs) count v at = pad_end fs (fields_bytes fs (count_in fs (members v)) (members v) 0 0)
  layout (Array n s) count v at = array_bytes (layout s count) (members v) 0 n at
  layout (Counted by max s) count v at = array_bytes (layout s count) (members v) 0 (count by) at

  -- the fields from number i on
  pub fields_bytes : Fields → (CountField → ℕ) → List (ℕ × Value) → ℕ → ℕ → List ℕ
  fields_bytes no_fields count ms i at = []
  fields_bytes (field name s fs) count ms i at = let bytes = layout s count (find i ms) at in bytes ++ fields_bytes fs count ms (i + 1) (at + length bytes)

abbrev pub counts_nothing : CountField → ℕ
counts_nothing by = 0

-- all of a value's bytes
abbrev pub bytes_of : Shape → Value → List ℕ
bytes_of s v = layout s counts_nothing v 0
