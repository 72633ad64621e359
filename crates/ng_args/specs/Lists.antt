-- Lists of words.
use Rattle.std.specs.Prelude.{ℕ, Bool, true, not, ◌&&◌, List, [], ◌∷◌}
use Rattle.std.specs.List.{list_any, list_all}
use Rattle.std.specs.Str.{bytes_eq}
use Rattle.ng_args.specs.Names.{is_dashed}

abbrev pub has_word : List (List ℕ) → List ℕ → Bool
has_word words word = list_any (λ other. bytes_eq other word) words

-- none of the words stands among the others
abbrev pub are_apart : List (List ℕ) → List (List ℕ) → Bool
are_apart words others = list_all (λ word. not (has_word others word)) words

-- none of them begins with a dash
abbrev pub are_undashed : List (List ℕ) → Bool
are_undashed words = list_all (λ word. not (is_dashed word)) words
