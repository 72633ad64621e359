-- What is left of the zeros behind the text is so many zeros.
use Rattle.std.proofs.Common.{ℕ, List, ◌++◌, length, ap}
use Rattle.std.proofs.lemmas.List.{drop-replicate}
use Rattle.ng_core.proofs.intake.asking.name_field.Goals as goal

pub returns : goal.returns
returns c =
    rw c.copy_from_slice.ensures.after
    (ap (λ (l : List ℕ). c.args.name.now ++ l) (drop-replicate (length c.args.name.now) 32 0))
