-- Names among the words of a command line. Numbers are those of ng_decimal.
use Rattle.std.specs.Prelude.{ℕ, Bool, not, ◌&&◌, ◌==◌, false, if◌then◌else◌, List, [], ◌∷◌, Option, Some, None}
use Rattle.ng_base.specs.Name.{is_name}

abbrev pub begins_with : ℕ → List ℕ → Bool
begins_with byte [] = false
begins_with byte (b ∷ bytes) = b == byte

-- the word is an option's, since it begins with a dash
abbrev pub is_dashed : List ℕ → Bool
is_dashed word = begins_with 0x2d word

-- the name of a node, which doesn't begin with a bracket: that would be taken for a number (ngctl(8))
abbrev pub is_node_name : List ℕ → Bool
is_node_name word = is_name word && not (begins_with 0x5b word)

abbrev pub node_name : List ℕ → Option (List ℕ)
node_name word = if is_node_name word then Some word else None

-- a file has a name of at least one byte
abbrev pub file_name : List ℕ → Option (List ℕ)
file_name [] = None
file_name (b ∷ bytes) = Some (b ∷ bytes)
