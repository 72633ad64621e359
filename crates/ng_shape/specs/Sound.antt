-- What is a shape.
use Rattle.std.specs.Prelude.{◌≡◌, ℕ, zero, suc, ◌+◌, ◌^◌, max, Bool, true, false, ◌&&◌, ◌||◌, not, ◌==◌, nat_lt, nat_le, List, length, Option, Some}
use Rattle.std.specs.Char.{is_ascii_alphanumeric}
use Rattle.std.specs.List.{list_all}
use Rattle.std.specs.Str.{bytes_eq}
use Rattle.ng_shape.specs.Shape.{Shape, UInt, Int, Hex, Str, Struct, Array, Counted, Fields, no_fields, field, CountField, Own}
use Rattle.ng_shape.specs.Shape.{Inside, shape_named, fields_inside}

-- an integer has 8, 16, 32 or 64 bits
abbrev pub has_width : ℕ → Bool
has_width bits = (bits == 8) || (bits == 16) || (bits == 32) || (bits == 64)

-- a word is made of letters, digits, and three marks: _ - :
abbrev pub is_word_byte : ℕ → Bool
is_word_byte b = is_ascii_alphanumeric b || (b == 95) || (b == 45) || (b == 58)

abbrev pub is_word : List ℕ → Bool
is_word name = nat_lt 0 (length name) && list_all is_word_byte name

abbrev pub has_field : List ℕ → Fields → Bool
has_field name no_fields = false
has_field name (field n s fs) = bytes_eq n name || has_field name fs

-- each name is a word, and none stands twice
abbrev pub has_names : Fields → Bool
has_names no_fields = true
has_names (field name s fs) = is_word name && not (has_field name fs) && has_names fs

abbrev pub is_counted : Shape → Bool
is_counted (Counted by max s) = true
is_counted _ = false

-- the first so many fields
abbrev pub first_fields : ℕ → Fields → Fields
first_fields zero fs = no_fields
first_fields (suc i) no_fields = no_fields
first_fields (suc i) (field name s fs) = field name s (first_fields i fs)

-- an unsigned integer that can be as great as max
abbrev pub can_count : ℕ → Option Shape → Bool
can_count max (Some (UInt bits)) = nat_lt max (2 ^ bits)
can_count max _ = false

-- what stands in the field that counts
abbrev pub counter_shape : Fields → CountField → Option Shape
counter_shape fs (Own name) = shape_named fs name
counter_shape fs (Inside name inner) = shape_named (fields_inside (shape_named fs name)) inner

abbrev pub same_counter : CountField → CountField → Bool
same_counter (Own name) (Own other) = bytes_eq name other
same_counter (Inside name inner) (Inside other deep) = bytes_eq name other && bytes_eq inner deep
same_counter _ _ = false

-- whether one of these fields is counted by that
abbrev pub counts : CountField → Fields → Bool
counts by no_fields = false
counts by (field name (Counted other max s) fs) = same_counter other by || counts by fs
counts by (field name _ fs) = counts by fs

-- a field inside of a structure counts nothing in there
abbrev pub counts_inside : CountField → Fields → Bool
counts_inside (Own name) fs = false
counts_inside (Inside name inner) fs = counts (Own inner) (fields_inside (shape_named fs name))

-- an array among the fields is counted by an earlier unsigned integer, which can be as great as the array's
-- greatest length and counts no other array
abbrev pub is_counted_well : Fields → Shape → Bool
is_counted_well earlier (Counted by max s) = can_count max (counter_shape earlier by) && not (counts by earlier) && not (counts_inside by earlier)
is_counted_well earlier _ = true

abbrev pub has_counts : Fields → ℕ → Fields → Bool
has_counts whole i no_fields = true
has_counts whole i (field name s fs) = is_counted_well (first_fields i whole) s && has_counts whole (i + 1) fs

-- what must hold of all that a shape is made of; an array that is counted stands in a structure alone
abbrev mutual
  pub is_sound : Shape → Bool
  is_sound (UInt bits) = has_width bits
  is_sound (Int bits) = has_width bits
  is_sound (Hex bits) = has_width bits
  is_sound (Str n) = nat_le 1 n && nat_le n (2 ^ 31)
  is_sound (Struct fs) = has_names fs && has_counts fs 0 fs && are_sound fs
  is_sound (Array n s) = not (is_counted s) && is_sound s
  is_sound (Counted by max s) = not (is_counted s) && is_sound s
  is_sound _ = true

  pub are_sound : Fields → Bool
  are_sound no_fields = true
  are_sound (field name s fs) = is_sound s && are_sound fs

-- how deep structures and arrays lie in one another; what has neither is 1 deep
abbrev mutual
  pub depth : Shape → ℕ
  depth (Struct fs) = depth_of_fields fs + 1
  depth (Array n s) = depth s + 1
  depth (Counted by max s) = depth s + 1
  depth _ = 1

  pub depth_of_fields : Fields → ℕ
  depth_of_fields no_fields = 0
  depth_of_fields (field name s fs) = max (depth s) (depth_of_fields fs)

abbrev pub is_shape : Shape → Bool
is_shape s = not (is_counted s) && is_sound s && nat_le (depth s) 16

abbrev pub IsShape : Shape → Type 0
IsShape s = is_shape s ≡ true
