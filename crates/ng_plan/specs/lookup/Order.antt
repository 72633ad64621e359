-- Numbers in order: each is above those before it, so that one leads to its place by halves.
use Rattle.std.specs.Prelude.{◌≡◌, ℕ, ◌<◌, ◌≤◌, nat_lt, List, length, filter, All, AllPairs}

-- the numbers, and the next that is given
pub record Numbers : Type 0 where
  pub standing : List ℕ
  pub next : ℕ

-- each number is above those before it and below the next
pub record AreRising (standing : List ℕ) (next : ℕ) : Type 0 where
  pub rising : AllPairs (λ a b. a < b) standing
  pub below : All (λ n. n < next) standing

-- the place of a number among numbers that rise: how many are below it
abbrev pub place_in : List ℕ → ℕ → ℕ
place_in standing number = length (filter (λ n. nat_lt n number) standing)

-- what was given a number before has the place that it had
pub record KeepsPlaces (old new : Numbers) : Type 0 where
  pub next : old.next ≤ new.next
  pub places : (number : ℕ) → number < old.next → place_in new.standing number ≡ place_in old.standing number
