use Rattle.ng_shape.proofs.Whole.{fitting_canonical}
use Rattle.ng_shape.proofs.laws.fitting_is_canonical.Goals as goal

pub returns : goal.returns
returns c = fitting_canonical
