-- Bytes that were read, in front of those that are still to be read.
use Rattle.std.proofs.Common.{ℕ, List, ◌++◌, Option, Some, None}

abbrev pub onto : List ℕ → Option (List ℕ) → Option (List ℕ)
onto bytes None = None
onto bytes (Some more) = Some (bytes ++ more)
