-- Fields of fixed length. A number is its bytes, the lowest first (`little_bytes`). A name has 32 bytes, as netgraph(4)
-- gives them (NG_NODESIZ, NG_HOOKSIZ, NG_TYPESIZ): its own, and NULs behind them.
use Rattle.std.specs.Prelude.{ℕ, ◌-◌, ◌==◌, List, [], ◌++◌, length, take, position, replicate, unwrap_or, Option, Some, None}

-- the text, and NULs behind it up to 32 bytes
abbrev pub name_field : List ℕ → List ℕ
name_field text = text ++ replicate (32 - length text) 0

-- a name that isn't there is the empty text
abbrev pub text_or_empty : Option (List ℕ) → List ℕ
text_or_empty None = []
text_or_empty (Some text) = text

-- what stands before the first NUL of a field, or all of it where there is none
abbrev pub field_text : List ℕ → List ℕ
field_text field = take (unwrap_or (position (λ byte. byte == 0) field) (length field)) field
