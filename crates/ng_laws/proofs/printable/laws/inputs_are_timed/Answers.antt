use Rattle.ng_laws.proofs.printable.Inputs.{inputs_are_timed as proved}
use Rattle.ng_laws.proofs.printable.laws.inputs_are_timed.Goals as goal

pub returns : goal.returns
returns c = proved
