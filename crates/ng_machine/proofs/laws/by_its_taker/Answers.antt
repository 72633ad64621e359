use Rattle.ng_machine.proofs.TakenOut.{by_its_taker as proved}
use Rattle.ng_machine.proofs.laws.by_its_taker.Goals as goal

pub returns : goal.returns
returns c = proved
