-- Names in order of their bytes, so that one is found by binary search, each with a number.
use Rattle.std.specs.Prelude.{◌≡◌, ℕ, ◌+◌, ◌&&◌, ◌==◌, if◌then◌else◌, List, [], ◌∷◌, length}
use Rattle.std.specs.Cmp.Lexicographic.{slice_cmp}
use Rattle.std.specs.List.Sorted.{IsSorted}
use Rattle.std.specs.Ordering.{nat_cmp}
use Rattle.std.specs.Str.{bytes_eq}

-- the names, the number of each, and for how many more there is memory
pub record Index : Type 0 where
  pub names : List (List ℕ)
  pub numbers : List ℕ
  pub room : ℕ

-- no name is below the one before it; the same name may stand there more than once
abbrev pub IsInOrder : List (List ℕ) → Type 0
IsInOrder names = IsSorted (slice_cmp nat_cmp) names

-- 1 where a name and its number are these, and 0 otherwise
abbrev pub one_if : List ℕ → ℕ → List ℕ → ℕ → ℕ
one_if first n name number = if bytes_eq first name && n == number then 1 else 0

-- how often a name stands with this number, where each name's number stands at the name's place
abbrev pub times : List (List ℕ) → List ℕ → List ℕ → ℕ → ℕ
times [] numbers name number = 0
times (first ∷ names) [] name number = 0
times (first ∷ names) (n ∷ numbers) name number = one_if first n name number + times names numbers name number

-- there is a number for each name
abbrev pub IsNumbered : Index → Type 0
IsNumbered index = length index.names ≡ length index.numbers

-- the second has the name with this number once more, and all else as often
abbrev pub HasOneMore : Index → List ℕ → ℕ → Index → Type 0
HasOneMore fewer name number more = (other : List ℕ) (n : ℕ)
    → times more.names more.numbers other n ≡ one_if name number other n + times fewer.names fewer.numbers other n
