use Rattle.ng_laws.proofs.printable.Inputs.{inputs_are_fit as proved}
use Rattle.ng_laws.proofs.printable.laws.inputs_are_fit.Goals as goal

pub returns : goal.returns
returns c = proved
