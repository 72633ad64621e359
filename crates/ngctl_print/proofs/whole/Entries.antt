-- Each entry can be printed where all can.
use Rattle.std.proofs.Common.{ℕ, zero, suc, ◌<◌, List, [], ◌∷◌, length, get_or, arith}
use Rattle.ng_machine.specs.Words.{Every}

pub every_at : {A : Type 0} (P : A → Type 0) (xs : List A) (i : ℕ) (d : A) → i < length xs → Every P xs → P (get_or xs i d)
every_at P [] i d inside all = absurd (omega arith)
every_at P (x ∷ xs) zero d inside all = all.0
every_at P (x ∷ xs) (suc i) d inside all = every_at P xs i d (omega arith) all.1
