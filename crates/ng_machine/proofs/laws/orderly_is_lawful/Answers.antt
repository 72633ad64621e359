use Rattle.ng_machine.proofs.Lawful.{keeps_laws as proved}
use Rattle.ng_machine.proofs.laws.orderly_is_lawful.Goals as goal

pub returns : goal.returns
returns c = proved
