-- The words of a line, split at blanks (ngctl(8)).
use Rattle.std.specs.Prelude.{ℕ, zero, suc, not, if◌then◌else◌, List, [], ◌∷◌, filter}
use Rattle.std.specs.List.{slice_split}
use Rattle.ngctl_script.specs.Lines.{is_blank, is_empty, past_blanks}

abbrev pub words_in : List ℕ → List (List ℕ)
words_in line = filter (λ word. not (is_empty word)) (slice_split is_blank line)

abbrev pub past_word : List ℕ → List ℕ
past_word [] = []
past_word (b ∷ bytes) = if is_blank b then b ∷ bytes else past_word bytes

-- the rest of the line behind so many words, from its first byte that is no blank
abbrev pub past_words : ℕ → List ℕ → List ℕ
past_words zero line = past_blanks line
past_words (suc n) line = past_words n (past_word (past_blanks line))
