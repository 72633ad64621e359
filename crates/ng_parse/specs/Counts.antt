-- Fields that count the elements of arrays.
use Rattle.std.specs.Prelude.{ℕ, ◌+◌, max, ◌&&◌, List, [], ◌∷◌, Option, Some, None, nat_lt, nat_le, ◌==◌, if◌then◌else◌}
use Rattle.ng_shape.specs.Shape.{Shape, Struct, Array, Counted, Fields, no_fields, field, CountField, Own}
use Rattle.ng_shape.specs.Shape.{Inside, field_number, shape_named, fields_inside}
use Rattle.ng_shape.specs.Values.{Value, Number, Group, pack, is_absent, number, members, find, find_named}
use Rattle.ng_parse.specs.declared.fault.Why.TheVariants.{Range, TooMany}
use Rattle.ng_parse.specs.declared.fault.Fault.{Fault}

-- the bytes of the text from a value's front on
abbrev pub left_of : Value → ℕ
left_of (Number left n) = left
left_of (Group left ms) = left
left_of _ = 0

-- the value of the field that counts, in a structure with these members
abbrev pub count_value : Fields → List (ℕ × Value) → CountField → Value
count_value fs ms (Own name) = find_named fs name ms
count_value fs ms (Inside name inner) = find_named (fields_inside (shape_named fs name)) inner (members (find_named fs name ms))

-- the greatest index plus 1, or 0
abbrev pub reach : List (ℕ × Value) → ℕ
reach [] = 0
reach (m ∷ ms) = max (m.0 + 1) (reach ms)

-- ---- a count that was not given

-- without the first member of that number
abbrev pub without : ℕ → List (ℕ × Value) → List (ℕ × Value)
without i [] = []
without i (m ∷ ms) = if m.0 == i then ms else m ∷ without i ms

-- the value of a field in place of its old one
abbrev pub put_field : Option ℕ → Value → List (ℕ × Value) → List (ℕ × Value)
put_field None v ms = ms
put_field (Some i) v ms = (i, v) ∷ without i ms

-- a count in the field that counts
abbrev pub put_count : Fields → CountField → ℕ → List (ℕ × Value) → List (ℕ × Value)
put_count fs (Own name) n ms = put_field (field_number fs name) (Number 0 n) ms
put_count fs (Inside name inner) n ms =
    let structure = find_named fs name ms in
    let inside = put_field (field_number (fields_inside (shape_named fs name)) inner) (Number 0 n) (members structure) in
    put_field (field_number fs name) (Group (left_of structure) (pack inside)) ms

-- An array with elements has a count. An index is below max, and so is this count no more than max.
abbrev pub fill_count : Fields → CountField → ℕ → ℕ → List (ℕ × Value) → List (ℕ × Value)
fill_count fs by max n ms = if is_absent (count_value fs ms by) && nat_lt 0 n && nat_le n max then put_count fs by n ms else ms

-- the same of a field, if it is an array that is counted
abbrev pub fill_field : Fields → Shape → ℕ → List (ℕ × Value) → List (ℕ × Value)
fill_field whole (Counted by max s) i ms = fill_count whole by max (reach (members (find i ms))) ms
fill_field whole _ i ms = ms

-- the members of a structure with all its counts, from field i on
abbrev pub fill_counts : Fields → Fields → ℕ → List (ℕ × Value) → List (ℕ × Value)
fill_counts whole no_fields i ms = ms
fill_counts whole (field name s fs) i ms = fill_counts whole fs (i + 1) (fill_field whole s i ms)

-- ---- a count that is wrong

abbrev pub or_else : Option Fault → Option Fault → Option Fault
or_else None other = other
or_else (Some fault) other = Some fault

-- a count above max, or an index that is not below the count
abbrev pub count_fault : ℕ → Value → Value → Option Fault
count_fault max count v =
    if nat_lt max (number count) then Some (record { why = Range; left = left_of count })
    else if nat_lt (number count) (reach (members v)) then Some (record { why = TooMany; left = left_of v })
    else None

-- the first one among elements, in the order in which they were given
abbrev pub first_fault : (Value → Option Fault) → List (ℕ × Value) → Option Fault
first_fault fault [] = None
first_fault fault (m ∷ ms) = or_else (fault m.1) (first_fault fault ms)

-- the first wrong count in a value, in order of fields; `count` gives the fields that count in the structure around it
unfoldable mutual
  pub wrong_count : Shape → (CountField → Value) → Value → Option Fault
  wrong_count (Struct fs) count v = wrong_count_in fs (count_value fs (members v)) (members v) 0
  wrong_count (Array n s) count v = first_fault (wrong_count s count) (members v)
  wrong_count (Counted by max s) count v = or_else (count_fault max (count by) v) (first_fault (wrong_count s count) (members v))
  wrong_count _ count v = None

  pub wrong_count_in : Fields → (CountField → Value) → List (ℕ × Value) → ℕ → Option Fault
  wrong_count_in no_fields count ms i = None
  wrong_count_in (field name s fs) count ms i = or_else (wrong_count s count (find i ms)) (wrong_count_in fs count ms (i + 1))
