use Rattle.ng_laws.proofs.printable.OfScript.{inputs_are_of_script as proved}
use Rattle.ng_laws.proofs.printable.laws.inputs_are_of_script.Goals as goal

pub returns : goal.returns
returns c = proved
