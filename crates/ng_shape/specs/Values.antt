-- Values without where they lie in memory.
use Rattle.std.specs.Prelude.{ℕ, ◌+◌, Bool, true, false, ◌&&◌, nat_le, ◌==◌, if◌then◌else◌, List, [], ◌∷◌, Option, Some, None}
use Rattle.std.specs.Borrow.{Bor}
use Rattle.ng_shape.specs.declared.tree.Tree as rust
use Rattle.ng_shape.specs.declared.tree.Tree.{Tree, Row_of-Member, end_of-Member, more_of-Member}
use Rattle.ng_shape.specs.declared.tree.Member.{Member}
use Rattle.ng_shape.specs.Shape.{Fields, CountField, Own, Inside, field_number, shape_named, fields_inside}

mutual
  -- numbers and groups have the number of bytes from their front to the end of the text
  pub data Value : Type 0 where
    Absent : Value
    Number : ℕ → ℕ → Value
    Text : List ℕ → Value
    Group : ℕ → Members → Value

  -- members by their numbers, in the order in which they were given
  pub data Members : Type 0 where
    no_more : Members
    member : ℕ → Value → Members → Members

abbrev mutual
  pub value_of : Tree → Value
  value_of rust.Absent = Absent
  value_of (rust.Number left n) = Number left n
  value_of (rust.Text v) = Text v.items
  value_of (rust.Group' left n row) = Group left (members_in row)

  pub members_in : {m : _} → Row_of-Member m → Members
  members_in end_of-Member = no_more
  members_in (more_of-Member i tree rest) = member i (value_of tree) (members_in rest)

abbrev pub pack : List (ℕ × Value) → Members
pack [] = no_more
pack (m ∷ ms) = member m.0 m.1 (pack ms)

abbrev pub unpack : Members → List (ℕ × Value)
unpack no_more = []
unpack (member i v ms) = (i, v) ∷ unpack ms

-- a member with its number
abbrev pub member_of : Member → ℕ × Value
member_of m = (m.number, value_of m.tree)

abbrev pub members_of : List Member → List (ℕ × Value)
members_of [] = []
members_of (m ∷ ms) = member_of m ∷ members_of ms

-- a value, or nothing where none was given
abbrev pub value_seen : Option (Bor Tree) → Value
value_seen None = Absent
value_seen (Some t) = value_of t.now

abbrev pub is_absent : Value → Bool
is_absent Absent = true
is_absent _ = false

-- the number that a value is, and 0 where it is none
abbrev pub number : Value → ℕ
number (Number left n) = n
number _ = 0

-- the bytes that a value is, and none where it is no string or address
abbrev pub chars : Value → List ℕ
chars (Text bs) = bs
chars _ = []

-- the members that a value has
abbrev pub members : Value → List (ℕ × Value)
members (Group left ms) = unpack ms
members _ = []

-- the first member of that number, and nothing where there is none
abbrev pub find : ℕ → List (ℕ × Value) → Value
find i [] = Absent
find i (m ∷ ms) = if m.0 == i then m.1 else find i ms

abbrev pub find_if : Option ℕ → List (ℕ × Value) → Value
find_if None ms = Absent
find_if (Some i) ms = find i ms

-- whether the numbers of the members ascend from low on
abbrev pub are_ascending : ℕ → List (ℕ × Value) → Bool
are_ascending low [] = true
are_ascending low (m ∷ ms) = nat_le low m.0 && are_ascending (m.0 + 1) ms

-- the field of that name
abbrev pub find_named : Fields → List ℕ → List (ℕ × Value) → Value
find_named fs name ms = find_if (field_number fs name) ms

-- what the field that counts says, in a structure with these members
abbrev pub count_in : Fields → List (ℕ × Value) → CountField → ℕ
count_in fs ms (Own name) = number (find_named fs name ms)
count_in fs ms (Inside name inner) = number (find_named (fields_inside (shape_named fs name)) inner (members (find_named fs name ms)))
