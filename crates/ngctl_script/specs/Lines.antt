-- The lines of a script, and what each of them is: a command of ngctl(8) a line, which skips comments that begin with
-- `#`. Marks are this project's own: `@N` and `@end` say when the commands behind them are fed.
use Rattle.std.specs.Prelude.{ℕ, Bool, true, false, ◌&&◌, ◌||◌, ◌==◌, nat_le, nat_lt, if◌then◌else◌, List, [], ◌∷◌, reverse, length, codes, Option, Some, None}
use Rattle.std.specs.List.{slice_split}
use Rattle.std.specs.Str.{bytes_eq}
use Rattle.ng_parse.specs.Tokens.{digits_in}
use Rattle.ngctl_script.specs.declared.when.When.{When}
use Rattle.ngctl_script.specs.declared.when.When.TheVariants.{Late, After}

abbrev pub is_empty : List ℕ → Bool
is_empty [] = true
is_empty (b ∷ bytes) = false

-- LF ends a line, and so does CR LF. The last line may lack its end; a CR there is a byte of the line.

abbrev pub without_cr : List ℕ → List ℕ
without_cr [] = []
without_cr (b ∷ []) = if b == 0x0d then [] else b ∷ []
without_cr (b ∷ next ∷ bytes) = b ∷ without_cr (next ∷ bytes)

-- of the parts between the LFs the last is a line that lacks its end, or nothing
abbrev pub lines_in : List (List ℕ) → List (List ℕ)
lines_in [] = []
lines_in (last ∷ []) = if is_empty last then [] else last ∷ []
lines_in (line ∷ next ∷ parts) = without_cr line ∷ lines_in (next ∷ parts)

abbrev pub lines_of : List ℕ → List (List ℕ)
lines_of bytes = lines_in (slice_split (λ b. b == 0x0a) bytes)

-- Blanks are spaces and tabs.

abbrev pub is_blank : ℕ → Bool
is_blank b = (b == 0x20) || (b == 0x09)

abbrev pub past_blanks : List ℕ → List ℕ
past_blanks [] = []
past_blanks (b ∷ bytes) = if is_blank b then past_blanks bytes else b ∷ bytes

-- without the blanks at both ends
abbrev pub trimmed : List ℕ → List ℕ
trimmed line = reverse (past_blanks (reverse (past_blanks line)))

-- what a line is
pub data Line : Type 0 where
  Skipped : Line
  Mark : Option When → Line  -- None where the mark has no form
  Command : List ℕ → Line

abbrev pub begins_with : ℕ → List ℕ → Bool
begins_with byte [] = false
begins_with byte (b ∷ bytes) = b == byte

-- a number has no zero in front of other digits, and no sign
abbrev pub is_padded : List ℕ → Bool
is_padded text = begins_with 0x30 text && nat_lt 1 (length text)

abbrev pub most_mark : ℕ
most_mark = 1000000

abbrev pub mark_of_number : Option ℕ → Option When
mark_of_number None = None
mark_of_number (Some n) = if nat_le n most_mark then Some (After n) else None

-- the mark behind the `@`: `end`, or a number up to 1,000,000
abbrev pub mark_of : List ℕ → Option When
mark_of text =
    if bytes_eq text (codes "end") then Some Late
    else if is_padded text then None
    else mark_of_number (digits_in 10 text)

abbrev pub line_of_text : List ℕ → Line
line_of_text [] = Skipped
line_of_text (b ∷ text) =
    if b == 0x23 then Skipped
    else if b == 0x40 then Mark (mark_of text)
    else Command (b ∷ text)

abbrev pub line_of : List ℕ → Line
line_of line = line_of_text (trimmed line)
