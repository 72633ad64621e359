-- The text of a value as bytes give it (netgraph's ng_parse.h; ngctl(8)): zeros are nothing, and members stand in order.
use Rattle.std.specs.Prelude.{ℕ, ◌+◌, ◌-◌, ◌*◌, ◌/◌, ◌%◌, false, List, [], ◌∷◌, ◌++◌, nat_lt, ◌==◌, ◌||◌, if◌then◌else◌}
use Rattle.std.specs.List.{flat_map}
use Rattle.std.specs.Fmt.{decimal, digits, digit_glyph}
use Rattle.ng_shape.specs.Shape.{Shape, Nothing, UInt, Int, Hex, Str, Ether, Struct, Array, Counted, Fields, no_fields, field}
use Rattle.ng_shape.specs.Values.{Value, is_absent, number, chars, members, find}
use Rattle.ng_shape.specs.Layout.{zeros}
use Rattle.ng_parse.specs.Ascii.{space, quote, minus, digit_zero, colon, equals, open_bracket, backslash, close_bracket}
use Rattle.ng_parse.specs.Ascii.{letter_x, open_brace, close_brace, tilde}
use Rattle.ng_parse.specs.Reading.{limit}

abbrev pub print_signed : ℕ → ℕ → List ℕ
print_signed bits n = if nat_lt (2 * n) (limit bits) then decimal n else minus ∷ decimal (limit bits - n)

abbrev pub print_hex : ℕ → List ℕ
print_hex n = digit_zero ∷ letter_x ∷ digits 16 false n

abbrev pub two_digits : ℕ → List ℕ
two_digits c = digit_glyph false (c / 16) ∷ digit_glyph false (c % 16) ∷ []

-- a byte of a string: \" and \\ for these two, \xHH for bytes that are not printed as themselves
abbrev pub print_char : ℕ → List ℕ
print_char c =
    if (c == quote) || (c == backslash) then backslash ∷ c ∷ []
    else if nat_lt c space || nat_lt tilde c then backslash ∷ letter_x ∷ two_digits c
    else c ∷ []

abbrev pub print_string : List ℕ → List ℕ
print_string cs = quote ∷ flat_map print_char cs ++ quote ∷ []

-- an address, behind a colon each byte but the first
abbrev pub print_groups : List ℕ → List ℕ
print_groups cs = flat_map (λ c. colon ∷ two_digits c) cs

abbrev pub print_address : List ℕ → List ℕ
print_address [] = []
print_address (c ∷ cs) = two_digits c ++ print_groups cs

-- the bytes of an address, zeros where none was given
abbrev pub address_bytes : List ℕ → List ℕ
address_bytes [] = zeros 6
address_bytes (c ∷ cs) = c ∷ cs

-- a blank, a name and a value, where one was given
abbrev pub print_field : List ℕ → (Value → List ℕ) → Value → List ℕ
print_field name print v = if is_absent v then [] else space ∷ name ++ equals ∷ print v

-- a blank and an element, with its index unless it is the next one
abbrev pub print_index : ℕ → ℕ → List ℕ
print_index next i = if i == next then space ∷ [] else space ∷ decimal i ++ equals ∷ []

abbrev pub print_elements : (Value → List ℕ) → ℕ → List (ℕ × Value) → List ℕ
print_elements print next [] = []
print_elements print next (m ∷ ms) = print_index next m.0 ++ print m.1 ++ print_elements print (m.0 + 1) ms

abbrev pub print_array : (Value → List ℕ) → List (ℕ × Value) → List ℕ
print_array print ms = open_bracket ∷ print_elements print 0 ms ++ space ∷ close_bracket ∷ []

unfoldable mutual
  pub print : Shape → Value → List ℕ
  print Nothing v = []
  print (UInt bits) v = decimal (number v)
  print (Int bits) v = print_signed bits (number v)
  print (Hex bits) v = print_hex (number v)
  print (Str n) v = print_string (chars v)
  print Ether v = print_address (address_bytes (chars v))
  print (Struct fs) v = open_brace ∷ print_fields fs (members v) 0 ++ space ∷ close_brace ∷ []
  print (Array n s) v = print_array (print s) (members v)
  print (Counted by max s) v = print_array (print s) (members v)

  -- the fields from number i on
  pub print_fields : Fields → List (ℕ × Value) → ℕ → List ℕ
  print_fields no_fields ms i = []
  print_fields (field name s fs) ms i = print_field name (print s) (find i ms) ++ print_fields fs ms (i + 1)
