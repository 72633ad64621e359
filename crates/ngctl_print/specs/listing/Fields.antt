-- The fields of a line of text, and those of the structures that lines are printed from.
use Rattle.std.specs.Prelude.{ℕ, ◌+◌, ◌-◌, ◌/◌, ◌%◌, false, List, [], ◌∷◌, ◌++◌, length, codes, drop, replicate, slice_range}
use Rattle.std.specs.Fmt.{digit_glyph}
use Rattle.byteorder.specs.Endian.{little_number}
use Rattle.ng_message.specs.Fields.{field_text}

abbrev pub line_feed : List ℕ
line_feed = 0x0a ∷ []

-- at the left of so many places, with blanks behind it; a longer text isn't cut
abbrev pub left_in : ℕ → List ℕ → List ℕ
left_in places text = text ++ replicate (places - length text) 0x20

-- a text in so many places, and a blank behind them
abbrev pub column : ℕ → List ℕ → List ℕ
column places text = left_in places text ++ codes " "

-- the digit of a number below 16, in lower case
abbrev pub hex_digit : ℕ → ℕ
hex_digit n = digit_glyph false n

-- a number of 32 bits in eight hexadecimal digits
unfoldable pub eight_digits : ℕ → List ℕ
eight_digits n =
    hex_digit (n / 0x10000000 % 16) ∷ hex_digit (n / 0x1000000 % 16) ∷ hex_digit (n / 0x100000 % 16) ∷ hex_digit (n / 0x10000 % 16)
    ∷ hex_digit (n / 0x1000 % 16) ∷ hex_digit (n / 0x100 % 16) ∷ hex_digit (n / 0x10 % 16) ∷ hex_digit (n % 16) ∷ []

-- the name in the 32 bytes at a place: what stands before the first NUL
abbrev pub name_at : ℕ → List ℕ → List ℕ
name_at place bytes = field_text (slice_range bytes place (place + 32))

-- the number of 32 bits at a place, the lowest byte first
unfoldable pub number_at : ℕ → List ℕ → ℕ
number_at place bytes = little_number 4 (drop place bytes)

-- what stands for a name that isn't there
abbrev pub or_unnamed : List ℕ → List ℕ
or_unnamed [] = codes "<unnamed>"
or_unnamed (b ∷ name) = b ∷ name
