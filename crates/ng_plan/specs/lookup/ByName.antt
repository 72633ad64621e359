-- Entries under their names: a name leads to the place of the first entry that has it.
use Rattle.std.specs.Prelude.{◌≡◌, ℕ, Bool, if◌then◌else◌, List, Some, None}
use Rattle.std.specs.List.{position_from}
use Rattle.std.specs.Option.{option_map, option_or}
use Rattle.std.specs.Str.{bytes_eq}
use Rattle.ng_plan.specs.lookup.NameMap.{Map, down_above, under}

abbrev pub has_the_name : {X : Type 0} → (X → List ℕ) → List ℕ → X → Bool
has_the_name name_of name entry = bytes_eq (name_of entry) name

abbrev pub IsIndexed : {X : Type 0} → (X → List ℕ) → List X → Map ℕ → Type 0
IsIndexed name_of entries places = (name : List ℕ) → under places name ≡ position_from (has_the_name name_of name) 0 entries

-- a place is put under a name where there is none
abbrev pub PutsFirst : Map ℕ → Map ℕ → List ℕ → ℕ → Type 0
PutsFirst old new name place =
    (other : List ℕ) → under new other ≡ option_or (under old other) (if bytes_eq name other then Some place else None)

-- the place of a name is taken out, and the places behind it go one down
abbrev pub CutsPlace : Map ℕ → List ℕ → ℕ → Map ℕ → Type 0
CutsPlace old name place new =
    (other : List ℕ) → under new other ≡ (if bytes_eq name other then None else option_map (down_above place) (under old other))
