-- The hooks of a node as its type keeps them.
use Rattle.std.specs.Prelude.{ℕ, List}

-- the names in the order in which the hooks were made, and for how many more there is memory
pub record Hooks : Type 0 where
  pub names : List (List ℕ)
  pub room : ℕ
