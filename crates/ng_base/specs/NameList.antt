-- Names in the order in which they were added, each with a number, and an index of them.
use Rattle.std.specs.Prelude.{◌≡◌, ℕ, ◌<◌, List, length, All, AllPairs}
use Rattle.ng_base.specs.NameIndex.{Index, IsNumbered, times}

-- the names, and for how many more there is memory and a number
pub record NamesAndRoom : Type 0 where
  pub names : List (List ℕ)
  pub room : ℕ

-- each name has a number above those before it and below the next, and the index has the same names with the same numbers
pub record IsIndexed (names : List (List ℕ)) (numbers : List ℕ) (next : ℕ) (index : Index) : Type 0 where
  pub long : length names ≡ length numbers
  pub rising : AllPairs (λ a b. a < b) numbers
  pub below : All (λ n. n < next) numbers
  pub numbered : IsNumbered index
  pub same : (name : List ℕ) (number : ℕ) → times index.names index.numbers name number ≡ times names numbers name number
