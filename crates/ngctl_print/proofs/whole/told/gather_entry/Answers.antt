use Rattle.ngctl_print.proofs.whole.Pieces.{gathered_more, put_on}
use Rattle.ngctl_print.proofs.whole.told.gather_entry.Goals as goal

pub returns-then-is_full : goal.returns-then-is_full
returns-then-is_full g c = λ begun text so_far.
    put_on begun _ _ _ _ _ _ _ _ (gathered_more begun _ text _ _ _ so_far c.in_default.ensures.whole) c.hand_on.ensures.put c.hand_on.ensures.empty
