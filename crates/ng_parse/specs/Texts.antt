-- The bytes that a text stands for, and the text of bytes.
use Rattle.std.specs.Prelude.{◌≡◌, ℕ, ◌^◌, ◌<◌, List, [], length, Option, Some, None, Result, Ok, Err}
use Rattle.ng_shape.specs.declared.fault.BytesFault.{BytesFault}
use Rattle.ng_shape.specs.Shape.{Shape, Struct, Array, Counted, Fields, no_fields, field, CountField}
use Rattle.ng_shape.specs.Sound.{IsShape}
use Rattle.ng_shape.specs.Values.{Value}
use Rattle.ng_shape.specs.Layout.{bytes_of}
use Rattle.ng_shape.specs.Decoding.{value_from}
use Rattle.ng_shape.specs.Canonical.{AreBytes, IsCanonical}
use Rattle.ng_parse.specs.declared.fault.TextFault.{TextFault}
use Rattle.ng_parse.specs.declared.fault.Fault.{Fault}
use Rattle.ng_shape.specs.Decoding.{◌>>=◌}
use Rattle.ng_parse.specs.Faults.{with_place}
use Rattle.ng_parse.specs.Counts.{count_value, wrong_count}
use Rattle.ng_parse.specs.Reading.{read_all}
use Rattle.ng_parse.specs.Printing.{print}

abbrev pub unless : {A : Type 0} → Option Fault → A → Result A Fault
unless None x = Ok x
unless (Some fault) x = Err fault

-- around the whole value there is no structure
abbrev pub no_count : CountField → Value
no_count = count_value no_fields []

-- the value that a text says: faults of reading come first, then those of counts
unfoldable pub value_of_text : Shape → List ℕ → Result Value Fault
value_of_text s text = read_all s text >>= λ v. unless (wrong_count s no_count v) v

-- the bytes that a text is a form of, or its first fault
unfoldable pub bytes_of_text : Shape → List ℕ → Result (List ℕ) TextFault
bytes_of_text s text = with_place (length text) (value_of_text s text) >>= λ v. Ok (bytes_of s v)

-- the text is a form of exactly these bytes
abbrev pub IsFormOf : Shape → List ℕ → List ℕ → Type 0
IsFormOf s text bytes = bytes_of_text s text ≡ Ok bytes

-- the text of bytes, or what is wrong with their length
unfoldable pub text_of_bytes : Shape → List ℕ → Result (List ℕ) BytesFault
text_of_bytes s bytes = value_from s bytes >>= λ v. Ok (print s v)

-- what a text is a form of is canonical
abbrev pub FormsAreCanonical : Type 0
FormsAreCanonical = (s : Shape) (text bytes : List ℕ) → IsShape s → AreBytes text → IsFormOf s text bytes → IsCanonical s bytes

-- lengths of arrays are numbers of 32 bits, as those of every shape
abbrev mutual
  pub HasLengths : Shape → Type 0
  HasLengths (Struct fs) = HaveLengths fs
  HasLengths (Array n s) = (n < 2 ^ 32) × HasLengths s
  HasLengths (Counted by max s) = (max < 2 ^ 32) × HasLengths s
  HasLengths _ = Unit {0}

  pub HaveLengths : Fields → Type 0
  HaveLengths no_fields = Unit {0}
  HaveLengths (field name s fs) = HasLengths s × HaveLengths fs

-- canonical bytes have a text, which is a form of exactly these bytes
abbrev pub PrintedIsFormOf : Type 0
PrintedIsFormOf =
    (s : Shape) (bytes : List ℕ) → IsShape s → HasLengths s → IsCanonical s bytes
    → (text : List ℕ) × (text_of_bytes s bytes ≡ Ok text) × IsFormOf s text bytes
