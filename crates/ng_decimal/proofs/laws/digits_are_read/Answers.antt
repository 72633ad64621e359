use Rattle.ng_decimal.proofs.Plain.{digits_are_read as proved}
use Rattle.ng_decimal.proofs.laws.digits_are_read.Goals as goal

pub returns : goal.returns
returns c = proved
