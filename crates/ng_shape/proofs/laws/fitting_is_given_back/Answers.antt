use Rattle.ng_shape.proofs.Whole.{fitting_given_back}
use Rattle.ng_shape.proofs.laws.fitting_is_given_back.Goals as goal

pub returns : goal.returns
returns c = fitting_given_back
