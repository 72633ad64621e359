-- Values from bytes, from left to right, with the first fault that is met.
use Rattle.std.specs.Prelude.{◌≡◌, ℕ, zero, suc, ◌+◌, ◌-◌, Bool, List, [], ◌∷◌, ◌++◌, length, take, drop, not, Result, Ok, Err, nat_lt, ◌==◌, if◌then◌else◌}
use Rattle.std.specs.List.{list_any}
use Rattle.byteorder.specs.Endian.{little_number}
use Rattle.ng_shape.specs.declared.fault.BytesFault.{BytesFault}
use Rattle.ng_shape.specs.declared.fault.BytesFault.TheVariants.{Short, Trailing, NoMemory}
use Rattle.ng_shape.specs.Shape.{Shape, Nothing, UInt, Int, Hex, Str, Ether, Struct, Array, Counted, Fields, no_fields, field, CountField}
use Rattle.ng_shape.specs.Values.{Value, Absent, Number, Text, Group, pack, count_in}
use Rattle.ng_shape.specs.Layout.{width, gap, end_gap, counts_nothing}

-- A reader gives what it read and the bytes behind it, or how many bytes are missing.
abbrev pub Read : Type 0 → Type 0
Read A = Result (A × List ℕ) ℕ

infixl 10 ◌>>=◌
abbrev pub ◌>>=◌ : {A B E : Type 0} → Result A E → (A → Result B E) → Result B E
(Ok x) >>= f = f x
(Err e) >>= f = Err e

-- the first n bytes
unfoldable pub take_exactly : ℕ → List ℕ → Read (List ℕ)
take_exactly n bytes = if nat_lt (length bytes) n then Err (n - length bytes) else Ok (take n bytes, drop n bytes)

-- zeros are nothing
abbrev pub number_value : ℕ → Value
number_value zero = Absent
number_value (suc n) = Number 0 (suc n)

abbrev pub has_other_than_zero : List ℕ → Bool
has_other_than_zero bytes = list_any (λ b. not (b == 0)) bytes

abbrev pub address_value : List ℕ → Value
address_value bytes = if has_other_than_zero bytes then Text bytes else Absent

-- what stands before the first NUL
abbrev pub before_nul : List ℕ → List ℕ
before_nul [] = []
before_nul (c ∷ cs) = if c == 0 then [] else c ∷ before_nul cs

abbrev pub text_value : List ℕ → Value
text_value [] = Absent
text_value (c ∷ cs) = Text (c ∷ cs)

abbrev pub group_value : List (ℕ × Value) → Value
group_value [] = Absent
group_value (m ∷ ms) = Group 0 (pack (m ∷ ms))

-- a member with its number, unless it is nothing
abbrev pub given : ℕ → Value → List (ℕ × Value)
given i Absent = []
given i (Number left n) = (i, Number left n) ∷ []
given i (Text bs) = (i, Text bs) ∷ []
given i (Group left ms) = (i, Group left ms) ∷ []

-- an integer, behind its padding; the structure had `front` bytes from its front on
unfoldable pub number_in : ℕ → ℕ → List ℕ → Read Value
number_in w front bytes = do
  padding ← take_exactly (gap w (front - length bytes)) bytes
  x ← take_exactly w padding.1
  Ok (number_value (little_number w x.0), x.1)

unfoldable pub text_in : ℕ → List ℕ → Read Value
text_in n bytes = take_exactly n bytes >>= λ x. Ok (text_value (before_nul x.0), x.1)

unfoldable pub address_in : List ℕ → Read Value
address_in bytes = take_exactly 6 bytes >>= λ x. Ok (address_value x.0, x.1)

-- k elements from number i on, behind those so far
unfoldable pub array_in : (List ℕ → Read Value) → ℕ → ℕ → List (ℕ × Value) → List ℕ → Read (List (ℕ × Value))
array_in element i zero so_far bytes = Ok (so_far, bytes)
array_in element i (suc k) so_far bytes = element bytes >>= λ x. array_in element (i + 1) k (so_far ++ given i x.0) x.1

abbrev pub as_group : Read (List (ℕ × Value)) → Read Value
as_group read = read >>= λ x. Ok (group_value x.0, x.1)

-- a structure's end, after its fields
abbrev pub read_end : Fields → List ℕ → Read (List (ℕ × Value)) → Read Value
read_end fs bytes fields = do
  x ← fields
  padding ← take_exactly (end_gap fs (length bytes - length x.1)) x.1
  Ok (group_value x.0, padding.1)

-- a value, with what fields of its structure count
unfoldable mutual
  pub value_in : Shape → (CountField → ℕ) → ℕ → List ℕ → Read Value
  value_in Nothing count front bytes = Ok (Absent, bytes)
  value_in (UInt bits) count front bytes = number_in (width bits) front bytes
  value_in (Int bits) count front bytes = number_in (width bits) front bytes
  value_in (Hex bits) count front bytes = number_in (width bits) front bytes
  value_in (Str n) count front bytes = text_in n bytes
  value_in Ether count front bytes = address_in bytes
  value_in (Struct fs) count front bytes = read_end fs bytes (read_fields fs fs 0 [] (length bytes) bytes)
  value_in (Array n s) count front bytes = as_group (array_in (value_in s count front) 0 n [] bytes)
  value_in (Counted by max s) count front bytes = as_group (array_in (value_in s count front) 0 (count by) [] bytes)

  -- the fields from number i on, behind those so far, which say what they count
  pub read_fields : Fields → Fields → ℕ → List (ℕ × Value) → ℕ → List ℕ → Read (List (ℕ × Value))
  read_fields whole no_fields i so_far front bytes = Ok (so_far, bytes)
  read_fields whole (field name s fs) i so_far front bytes =
      value_in s (count_in whole so_far) front bytes >>= λ x. read_fields whole fs (i + 1) (so_far ++ given i x.0) front x.1

-- all of the bytes
abbrev pub all_read : ℕ → Read Value → Result Value BytesFault
all_read had (Ok x) = if 0 == length x.1 then Ok x.0 else Err (Trailing (length x.1))
all_read had (Err missing) = Err (Short (had + missing) had)

unfoldable pub value_from : Shape → List ℕ → Result Value BytesFault
value_from s bytes = all_read (length bytes) (value_in s counts_nothing (length bytes) bytes)

-- what a function returned, seen by view, unless memory ran out
abbrev pub IsUnlessNoMemory : {X A : Type 0} → (X → A) → Result X BytesFault → Result A BytesFault → Type 0
IsUnlessNoMemory view (Ok x) read = read ≡ Ok (view x)
IsUnlessNoMemory view (Err NoMemory) read = Unit {0}
IsUnlessNoMemory view (Err fault) read = read ≡ Err fault
