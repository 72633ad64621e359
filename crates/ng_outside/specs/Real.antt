-- A real sink, as a caller sees it.
use Rattle.std.specs.Prelude.{ℕ, List, Option}

-- what its writer holds, where that tells, and its count of faults
pub record RealSink : Type 0 where
  pub writer : Option (List ℕ)
  pub faults : ℕ
