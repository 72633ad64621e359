-- An address is cut at its colons, and its hook part at its dots.
use Rattle.std.specs.Prelude.{◌≡◌, ℕ, Bool, true, false, ◌==◌, List, [], ◌∷◌, filter, ◌⊎◌}
use Rattle.std.specs.List.{slice_split}
use Rattle.ng_base.specs.Name.{IsName}

-- the segments before, between and behind the marks, in order; without a mark it is one segment
abbrev pub cut_at : ℕ → List ℕ → List (List ℕ)
cut_at mark bytes = slice_split (λ b. b == mark) bytes

abbrev pub has_bytes : List ℕ → Bool
has_bytes [] = false
has_bytes (b ∷ bytes) = true

-- the names of a hook part: the segments between its dots that aren't empty
abbrev pub hook_names : List ℕ → List (List ℕ)
hook_names text = filter has_bytes (cut_at 0x2e text)

-- each segment is a name, but that the last may be empty
abbrev pub AreNames : List (List ℕ) → Type 0
AreNames [] = Unit {0}
AreNames (segment ∷ others) = (IsName segment ⊎ ((segment ≡ []) × (others ≡ []))) × AreNames others

-- names with a dot between them, and perhaps one behind the last
abbrev pub AreNamesJoined : List ℕ → Type 0
AreNamesJoined text = AreNames (cut_at 0x2e text)
