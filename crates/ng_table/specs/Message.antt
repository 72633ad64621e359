-- What the table says of a message, and words for the shapes in it. A structure is written as the list of its fields.
use Rattle.std.specs.Prelude.{ℕ, List, [], ◌∷◌, map, Option, Some, None}
use Rattle.std.specs.Borrow.{Bor}
use Rattle.ng_shape.specs.Shape.{Shape, Nothing, UInt, Int, Hex, Str, Struct, Counted, Fields, no_fields, field, shape_of, Own}
use Rattle.ng_table.specs.declared.row.Row.{Row}
pub use Rattle.ng_message.specs.Numbers.{read_only, has_answer}

pub record Message : Type 0 where
  pub name : List ℕ
  pub number : ℕ
  pub args : Shape
  pub answer : Shape

-- a message by its name, its number, and the shapes of its arguments and its answer
abbrev pub message : List ℕ → ℕ → Shape → Shape → Message
message name number args answer = record { name = name; number = number; args = args; answer = answer }

-- what a row says
abbrev pub message_of : Row → Message
message_of row = message row.name.now row.number (shape_of row.args.now) (shape_of row.answer.now)

abbrev pub message_seen : Option (Bor Row) → Option Message
message_seen None = None
message_seen (Some row) = Some (message_of row.now)

-- no arguments, or no answer
abbrev pub none : Shape
none = Nothing

abbrev pub u8 : Shape
u8 = UInt 8

abbrev pub u16 : Shape
u16 = UInt 16

abbrev pub u32 : Shape
u32 = UInt 32

abbrev pub u64 : Shape
u64 = UInt 64

abbrev pub i32 : Shape
i32 = Int 32

-- printed in hexadecimal
abbrev pub x32 : Shape
x32 = Hex 32

-- the name of a node, a hook or a type
abbrev pub s32 : Shape
s32 = Str 32

abbrev pub fields_listed : List (List ℕ × Shape) → Fields
fields_listed [] = no_fields
fields_listed (f ∷ fs) = field f.0 f.1 (fields_listed fs)

abbrev pub structure : List (List ℕ × Shape) → Shape
structure fs = Struct (fields_listed fs)

-- a structure of counters of these names
abbrev pub counters : List (List ℕ) → Shape
counters names = structure (map (λ name. (name, u64)) names)

-- as many as an earlier field of the structure says, and no more than `max`
abbrev pub counted_by : List ℕ → ℕ → Shape → Shape
counted_by name max element = Counted (Own name) max element
