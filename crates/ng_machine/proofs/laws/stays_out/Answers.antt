use Rattle.ng_machine.proofs.TakenOut.{stays_out as proved}
use Rattle.ng_machine.proofs.laws.stays_out.Goals as goal

pub returns : goal.returns
returns c = proved
