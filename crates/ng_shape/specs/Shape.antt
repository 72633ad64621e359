-- Shapes without where they lie in memory, in the words of the program's own type. They are what netgraph's own field types
-- are (ng_parse.h): integers of three kinds, strings of fixed size, Ethernet addresses, structures, and arrays of fixed or
-- counted length.
use Rattle.std.specs.Prelude.{ℕ, suc, List, [], ◌∷◌, Option, Some, None, if◌then◌else◌}
use Rattle.std.specs.Borrow.{Bor}
use Rattle.std.specs.Str.{bytes_eq}
use Rattle.ng_shape.specs.declared.shape.CountField.{CountField as DeclaredField}
use Rattle.ng_shape.specs.declared.shape.CountField.TheVariants as rust_field
use Rattle.ng_shape.specs.declared.shape.Shape as rust
use Rattle.ng_shape.specs.declared.shape.Shape.{Row_of-Field, end_of-Field, more_of-Field}
use Rattle.ng_shape.specs.declared.shape.Field.{Field}

-- the field that counts: one of the structure's own, or one of a structure that is a field of it
pub data CountField : Type 0 where
  Own : List ℕ → CountField
  Inside : List ℕ → List ℕ → CountField

mutual
  pub data Shape : Type 0 where
    Nothing : Shape
    UInt : ℕ → Shape
    Int : ℕ → Shape
    Hex : ℕ → Shape
    Str : ℕ → Shape
    Ether : Shape
    Struct : Fields → Shape
    Array : ℕ → Shape → Shape
    Counted : CountField → ℕ → Shape → Shape

  -- the names and shapes of a structure's fields
  pub data Fields : Type 0 where
    no_fields : Fields
    field : List ℕ → Shape → Fields → Fields

abbrev pub count_field_of : DeclaredField → CountField
count_field_of (rust_field.Own name) = Own name.now
count_field_of (rust_field.Inside name inner) = Inside name.now inner.now

abbrev mutual
  pub shape_of : rust.Shape → Shape
  shape_of rust.Nothing = Nothing
  shape_of (rust.UInt bits) = UInt bits
  shape_of (rust.Int bits) = Int bits
  shape_of (rust.Hex bits) = Hex bits
  shape_of (rust.Str n) = Str n
  shape_of rust.Ether = Ether
  shape_of (rust.Struct' p n row) = Struct (fields_in row)
  shape_of (rust.Array' n p element) = Array n (shape_of element)
  shape_of (rust.Counted' by max p element) = Counted (count_field_of by) max (shape_of element)

  pub fields_in : {m : _} → Row_of-Field m → Fields
  fields_in end_of-Field = no_fields
  fields_in (more_of-Field name shape rest) = field name.now (shape_of shape) (fields_in rest)

-- the same of a list of fields
abbrev pub fields_of : List Field → Fields
fields_of [] = no_fields
fields_of (f ∷ fs) = field f.name.now (shape_of f.shape) (fields_of fs)

abbrev pub one_more : Option ℕ → Option ℕ
one_more None = None
one_more (Some i) = Some (suc i)

-- the number of the field of that name, counted from 0
abbrev pub field_number : Fields → List ℕ → Option ℕ
field_number no_fields name = None
field_number (field n s fs) name = if bytes_eq n name then Some 0 else one_more (field_number fs name)

-- what stands in the field of that name
abbrev pub shape_named : Fields → List ℕ → Option Shape
shape_named no_fields name = None
shape_named (field n s fs) name = if bytes_eq n name then Some s else shape_named fs name

-- the shape that was found, if any
abbrev pub shape_seen : Option (Bor rust.Shape) → Option Shape
shape_seen None = None
shape_seen (Some s) = Some (shape_of s.now)

-- the fields of what is a structure
abbrev pub fields_inside : Option Shape → Fields
fields_inside (Some (Struct fs)) = fs
fields_inside _ = no_fields
