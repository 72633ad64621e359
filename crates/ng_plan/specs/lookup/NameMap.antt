-- Values under names.
use Rattle.std.specs.Prelude.{◌≡◌, ℕ, ◌-◌, nat_lt, false, if◌then◌else◌, List, [], ◌∷◌, length, Option, Some, None}
use Rattle.std.specs.Str.{bytes_eq}
use Rattle.ng_base.specs.NameIndex.{IsInOrder}
use Rattle.ng_base.specs.Names.{has_name}

-- names with a value for each, and for how many more there is memory
pub record Map (V : Type 0) : Type 0 where
  pub names : List (List ℕ)
  pub values : List V
  pub room : ℕ

-- the value under a name, where each name's value stands at the name's place
abbrev pub value_under : {V : Type 0} → List (List ℕ) → List V → List ℕ → Option V
value_under [] values name = None
value_under (first ∷ names) [] name = None
value_under (first ∷ names) (value ∷ values) name = if bytes_eq first name then Some value else value_under names values name

abbrev pub under : {V : Type 0} → Map V → List ℕ → Option V
under map name = value_under map.names map.values name

-- no name stands there twice
abbrev pub AreDistinct : List (List ℕ) → Type 0
AreDistinct [] = Unit {0}
AreDistinct (name ∷ names) = (has_name names name ≡ false) × AreDistinct names

-- names, each once and in order of their bytes, and a value for each
pub record IsMap {V : Type 0} (names : List (List ℕ)) (values : List V) : Type 0 where
  pub in_order : IsInOrder names
  pub distinct : AreDistinct names
  pub long : length names ≡ length values

-- the same stands under each name
abbrev pub IsSame : {V : Type 0} → Map V → Map V → Type 0
IsSame old new = (name : List ℕ) → under new name ≡ under old name

-- a value is put under a name, and the others stay
abbrev pub PutsUnder : {V : Type 0} → Map V → List ℕ → V → Map V → Type 0
PutsUnder old name value new = (other : List ℕ) → under new other ≡ (if bytes_eq name other then Some value else under old other)

-- a name is left out, and the others stay
abbrev pub LeavesOut : {V : Type 0} → Map V → List ℕ → Map V → Type 0
LeavesOut old name new = (other : List ℕ) → under new other ≡ (if bytes_eq name other then None else under old other)

-- a number above another goes one down
abbrev pub down_above : ℕ → ℕ → ℕ
down_above above value = if nat_lt above value then value - 1 else value
