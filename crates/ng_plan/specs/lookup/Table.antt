-- Entries in order of their numbers.
use Rattle.std.specs.Prelude.{ℕ, ◌<◌, List, length}
use Rattle.std.specs.List.{AllAdjacentBelow}

-- each entry has a greater number than the one before it
abbrev pub IsAscending : {X : Type 0} → (X → ℕ) → List X → Type 0
IsAscending key entries = AllAdjacentBelow (λ a b. key a < key b) entries (length entries)
