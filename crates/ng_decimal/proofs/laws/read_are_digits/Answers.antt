use Rattle.ng_decimal.proofs.Plain.{read_are_digits as proved}
use Rattle.ng_decimal.proofs.laws.read_are_digits.Goals as goal

pub returns : goal.returns
returns c = proved
