-- The forms of values in text (netgraph's ng_parse.h; ngctl(8)), read from left to right with the first fault that is met.
use Rattle.std.specs.Prelude.{ℕ, zero, suc, ◌+◌, ◌-◌, ◌*◌, ◌%◌, ◌^◌, Bool, true, false, ◌&&◌, ◌||◌, not, List, [], ◌∷◌, ◌++◌, length, drop, Option}
use Rattle.std.specs.Prelude.{Some, None, Result, Ok, Err, nat_lt, nat_le, ◌==◌, if◌then◌else◌}
use Rattle.std.specs.Char.{digit_value}
use Rattle.ng_shape.specs.Shape.{Shape, Nothing, UInt, Int, Hex, Str, Ether, Struct, Array, Counted, Fields, no_fields, field, field_number}
use Rattle.ng_shape.specs.Values.{Value, Absent, Number, Text, Group, pack}
use Rattle.ng_parse.specs.declared.fault.Why.{Why}
use Rattle.ng_parse.specs.declared.fault.Why.TheVariants.{Unexpected, UnknownField, Twice, Range, TooMany}
use Rattle.ng_parse.specs.declared.fault.Fault.{Fault}
use Rattle.ng_parse.specs.Ascii.{tab, newline, carriage_return, quote, equals, open_bracket, backslash, close_bracket}
use Rattle.ng_parse.specs.Ascii.{letter_n, letter_r, letter_t, letter_x, open_brace, close_brace}
use Rattle.ng_parse.specs.Tokens.{skip_blanks, word, after_word, starts, number_in, signed_in, is_hex, address_in}
use Rattle.ng_shape.specs.Decoding.{◌>>=◌}
use Rattle.ng_parse.specs.Faults.{fault_at, fails, rank, first_of}
use Rattle.ng_parse.specs.Counts.{fill_counts}

-- A reader takes something from the front of a text, and leaves the rest.
abbrev pub Read : Type 0 → Type 0
Read A = Result (A × List ℕ) Fault

abbrev pub Reader : Type 0
Reader = List ℕ → Read Value

-- a mark at the front
abbrev pub mark_at : ℕ → List ℕ → Result (List ℕ) Fault
mark_at c text = if starts c text then Ok (drop 1 text) else fails Unexpected text

abbrev pub maybe : {A B : Type 0} → Option A → B → (A → B) → B
maybe None b f = b
maybe (Some a) b f = f a

-- Steps from left to right, each with what came before it, until one ends the list. A step takes a byte or more, so a turn
-- for each byte is enough.
unfoldable pub repeat : {A : Type 0} → (List A → List ℕ → Read (Option A)) → ℕ → List A → List ℕ → Read (List A)
repeat step zero so_far text = fails Unexpected text
repeat step (suc k) so_far text = step so_far text >>= λ x. maybe x.0 (Ok (so_far, x.1)) (λ a. repeat step k (so_far ++ a ∷ []) x.1)

-- ---- integers

-- integers of so many bits are below this
abbrev pub limit : ℕ → ℕ
limit bits = if bits == 16 then 2 ^ 16 else if bits == 32 then 2 ^ 32 else if bits == 64 then 2 ^ 64 else 2 ^ 8

abbrev pub unsigned_below : ℕ → List ℕ → Option ℕ → Read Value
unsigned_below most text None = fails Unexpected text
unsigned_below most text (Some n) = if nat_lt n most then Ok (Number (length text) n, after_word text) else fails Range text

abbrev pub unsigned_at : ℕ → Reader
unsigned_at bits text = unsigned_below (limit bits) text (number_in (word text))

-- a number with a sign, by its two's complement
abbrev pub signed_below : ℕ → List ℕ → Option (Bool × ℕ) → Read Value
signed_below most text None = fails Unexpected text
signed_below most text (Some x) =
    if x.0 then (if nat_le (2 * x.1) most then Ok (Number (length text) ((most - x.1) % most), after_word text) else fails Range text)
    else (if nat_lt (2 * x.1) most then Ok (Number (length text) x.1, after_word text) else fails Range text)

abbrev pub signed_at : ℕ → Reader
signed_at bits text = signed_below (limit bits) text (signed_in (word text))

-- ---- strings

-- the byte that a character behind a backslash stands for
abbrev pub escape_value : ℕ → Option ℕ
escape_value c =
    if c == quote then Some quote
    else if c == backslash then Some backslash
    else if c == letter_n then Some newline
    else if c == letter_t then Some tab
    else if c == letter_r then Some carriage_return
    else None

-- an escape is wrong at its backslash
abbrev pub escape_fault : List ℕ → Fault
escape_fault text = record { why = Unexpected; left = length text + 1 }

abbrev pub wrong_escape : List ℕ → Read (Option ℕ)
wrong_escape text = Err (escape_fault text)

abbrev pub letter_at : List ℕ → List ℕ → Option ℕ → Read (Option ℕ)
letter_at text rest None = wrong_escape text
letter_at text rest (Some c) = Ok (Some c, rest)

abbrev pub hex_at : List ℕ → List ℕ → Read (Option ℕ)
hex_at text [] = wrong_escape text
hex_at text (h ∷ []) = wrong_escape text
hex_at text (h ∷ l ∷ rest) = if is_hex h && is_hex l then Ok (Some (digit_value h * 16 + digit_value l), rest) else wrong_escape text

-- behind a backslash: a letter, or x and two hexadecimal digits
abbrev pub escape_at : List ℕ → Read (Option ℕ)
escape_at [] = wrong_escape []
escape_at (c ∷ cs) = if c == letter_x then hex_at (c ∷ cs) cs else letter_at (c ∷ cs) cs (escape_value c)

-- a byte of a string, or none at the closing quote
abbrev pub char_at : List ℕ → Read (Option ℕ)
char_at [] = fails Unexpected []
char_at (c ∷ cs) = if c == quote then Ok (None, cs) else if c == backslash then escape_at cs else Ok (Some c, cs)

-- A string of fewer than n bytes, none of them zero, is out of range where its quote opens, as soon as one byte too many
-- or a zero is met.
abbrev pub char_below : ℕ → List ℕ → List ℕ → Read (Option ℕ) → Read (Option ℕ)
char_below n whole so_far (Err fault) = Err fault
char_below n whole so_far (Ok (None, rest)) = Ok (None, rest)
char_below n whole so_far (Ok (Some c, rest)) = if (c == 0) || nat_le n (length so_far + 1) then fails Range whole else Ok (Some c, rest)

abbrev pub string_char : ℕ → List ℕ → List ℕ → List ℕ → Read (Option ℕ)
string_char n whole so_far text = char_below n whole so_far (char_at text)

unfoldable pub string_at : ℕ → Reader
string_at n text = do
  inside ← mark_at quote text
  x ← repeat (string_char n text) (length inside) [] inside
  Ok (Text x.0, x.1)

-- ---- addresses

abbrev pub address_is : List ℕ → Option (List ℕ) → Read Value
address_is text None = fails Unexpected text
address_is text (Some bytes) = Ok (Text bytes, after_word text)

abbrev pub address_at : Reader
address_at text = address_is text (address_in (word text))

-- ---- members of structures and arrays

abbrev pub has : ℕ → List (ℕ × Value) → Bool
has i [] = false
has i (m ∷ ms) = (m.0 == i) || has i ms

-- a member, or none at the closing mark
abbrev pub member_at : ℕ → (List (ℕ × Value) → List ℕ → Read (ℕ × Value)) → List (ℕ × Value) → List ℕ → Read (Option (ℕ × Value))
member_at close item given text =
    if starts close (skip_blanks text) then Ok (None, drop 1 (skip_blanks text))
    else item given (skip_blanks text) >>= λ x. Ok (Some x.0, x.1)

-- members between two marks
unfoldable pub between : ℕ → ℕ → (List (ℕ × Value) → List ℕ → Read (ℕ × Value)) → List ℕ → Read (List (ℕ × Value))
between first close item text = mark_at first text >>= λ inside. repeat (member_at close item) (length inside) [] inside

-- ---- structures

-- the field that the word at the front names
abbrev pub known_field : List ℕ → List ℕ → Option ℕ → Result ℕ Fault
known_field text [] i = fails Unexpected text
known_field text (c ∷ cs) None = fails UnknownField text
known_field text (c ∷ cs) (Some i) = Ok i

abbrev pub fresh : List ℕ → ℕ → List (ℕ × Value) → Result ℕ Fault
fresh text i given = if has i given then fails Twice text else Ok i

-- name=value
unfoldable pub field_at : (List ℕ → Option ℕ) → (ℕ → Reader) → List (ℕ × Value) → List ℕ → Read (ℕ × Value)
field_at number reader given text = do
  i ← known_field text (word text) (number (word text))
  j ← fresh text i given
  after ← mark_at equals (skip_blanks (after_word text))
  x ← reader j (skip_blanks after)
  Ok ((j, x.0), x.1)

-- ---- arrays

-- the number after the last member's
abbrev pub next_number : List (ℕ × Value) → ℕ
next_number [] = 0
next_number (m ∷ []) = m.0 + 1
next_number (m ∷ k ∷ ms) = next_number (k ∷ ms)

-- an element's number, where it may stand
abbrev pub number_at : ℕ → List (ℕ × Value) → List ℕ → ℕ → Result ℕ Fault
number_at n given text i = if nat_lt i n then fresh text i given else fails TooMany text

abbrev pub is_empty : List ℕ → Bool
is_empty [] = true
is_empty (c ∷ cs) = false

-- index=value, where the word before the mark is a number
abbrev pub has_index : List ℕ → Bool
has_index text = not (is_empty (word text)) && starts equals (skip_blanks (after_word text))

abbrev pub after_index : List ℕ → List ℕ
after_index text = skip_blanks (drop 1 (skip_blanks (after_word text)))

abbrev pub index_at : ℕ → List (ℕ × Value) → List ℕ → Option ℕ → Result ℕ Fault
index_at n given text None = fails Unexpected text
index_at n given text (Some i) = number_at n given text i

abbrev pub indexed_at : ℕ → Reader → List (ℕ × Value) → List ℕ → Read (ℕ × Value)
indexed_at n reader given text = do
  i ← index_at n given text (number_in (word text))
  x ← reader (after_index text)
  Ok ((i, x.0), x.1)

-- No element stands here. A number may be an index, until the token behind it says otherwise.
abbrev pub no_element : List ℕ → Option ℕ → Fault
no_element text None = fault_at Unexpected text
no_element text (Some i) = fault_at Unexpected (skip_blanks (after_word text))

abbrev pub is_unexpected : Why → Bool
is_unexpected why = rank why == 0

abbrev pub element_value : List ℕ → Read Value → Read Value
element_value text (Ok x) = if length x.1 == length text then Err (no_element text (number_in (word text))) else Ok x
element_value text (Err fault) = if is_unexpected fault.why && (fault.left == length text) then Err (no_element text (number_in (word text))) else Err fault

-- a value at an element's front, with the number after the last one's
abbrev pub with_number : Result ℕ Fault → Read Value → Read (ℕ × Value)
with_number (Ok i) read = read >>= λ x. Ok ((i, x.0), x.1)
with_number (Err fault) (Ok x) = Err fault
with_number (Err fault) (Err later) = Err (first_of fault later)

unfoldable pub element_at : ℕ → Reader → List (ℕ × Value) → List ℕ → Read (ℕ × Value)
element_at n reader given text =
    if has_index text then indexed_at n reader given text
    else with_number (number_at n given text (next_number given)) (element_value text (reader text))

-- ---- values

abbrev pub group : List ℕ → (List (ℕ × Value) → List (ℕ × Value)) → Read (List (ℕ × Value)) → Read Value
group text finish read = read >>= λ x. Ok (Group (length text) (pack (finish x.0)), x.1)

abbrev pub nothing_at : Reader
nothing_at text = Ok (Absent, text)

-- a value of a shape at the front; the counts of a structure that were not given are filled in
unfoldable mutual
  pub read_at : Shape → Reader
  read_at Nothing = nothing_at
  read_at (UInt bits) = unsigned_at bits
  read_at (Int bits) = signed_at bits
  read_at (Hex bits) = unsigned_at bits
  read_at (Str n) = string_at n
  read_at Ether = address_at
  read_at (Struct fs) = λ text. group text (fill_counts fs fs 0) (between open_brace close_brace (field_at (field_number fs) (read_field fs)) text)
  read_at (Array n s) = λ text. group text (λ ms. ms) (between open_bracket close_bracket (element_at n (read_at s)) text)
  read_at (Counted by max s) = λ text. group text (λ ms. ms) (between open_bracket close_bracket (element_at max (read_at s)) text)

  -- the field of that number
  pub read_field : Fields → ℕ → Reader
  read_field no_fields i = nothing_at
  read_field (field n s fs) zero = read_at s
  read_field (field n s fs) (suc i) = read_field fs i

-- all of a text
unfoldable pub read_all : Shape → List ℕ → Result Value Fault
read_all s text = do
  x ← read_at s (skip_blanks text)
  if length (skip_blanks x.1) == 0 then Ok x.0 else fails Unexpected (skip_blanks x.1)
