-- Lists in order of numbers, and what a search by a number finds in one.
use Rattle.std.specs.Prelude.{◌≡◌, ℕ, ◌+◌, ◌<◌, ◌≤◌, List, [], ◌∷◌, length, get_or}

-- each entry has a greater number
abbrev pub IsAbove : {X : Type 0} → (X → ℕ) → ℕ → List X → Type 0
IsAbove key a [] = Unit {0}
IsAbove key a (x ∷ xs) = (a < key x) × IsAbove key a xs

-- each entry has a greater number than all before it
abbrev pub IsInOrder : {X : Type 0} → (X → ℕ) → List X → Type 0
IsInOrder key [] = Unit {0}
IsInOrder key (x ∷ xs) = IsAbove key (key x) xs × IsInOrder key xs

-- the entries before a place have lesser numbers
abbrev pub IsLesserBefore : {X : Type 0} → (X → ℕ) → List X → ℕ → ℕ → Type 0
IsLesserBefore {X} key xs a k = (j : ℕ) (d : X) → j < k → key (get_or xs j d) < a

-- the entries from a place on have greater numbers
abbrev pub IsGreaterFrom : {X : Type 0} → (X → ℕ) → List X → ℕ → ℕ → Type 0
IsGreaterFrom {X} key xs a k = (j : ℕ) (d : X) → k ≤ j → j < length xs → a < key (get_or xs j d)

-- the entry of this number stands at this place
pub record IsPlace {X : Type 0} (key : X → ℕ) (xs : List X) (a : ℕ) (k : ℕ) : Type 0 where
  pub in_range : k < length xs
  pub same : (d : X) → key (get_or xs k d) ≡ a
  pub lesser : IsLesserBefore key xs a k
  pub greater : IsGreaterFrom key xs a (k + 1)

-- no entry has this number, and one would stand at this place
pub record IsGap {X : Type 0} (key : X → ℕ) (xs : List X) (a : ℕ) (k : ℕ) : Type 0 where
  pub in_range : k ≤ length xs
  pub lesser : IsLesserBefore key xs a k
  pub greater : IsGreaterFrom key xs a k
