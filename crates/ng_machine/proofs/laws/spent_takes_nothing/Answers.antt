use Rattle.ng_machine.proofs.TakenOut.{spent_takes_nothing as proved}
use Rattle.ng_machine.proofs.laws.spent_takes_nothing.Goals as goal

pub returns : goal.returns
returns c = proved
