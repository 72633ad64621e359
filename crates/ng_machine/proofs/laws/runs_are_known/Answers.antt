use Rattle.ng_machine.proofs.Knowing.{runs_are_known as proved}
use Rattle.ng_machine.proofs.laws.runs_are_known.Goals as goal

pub returns : goal.returns
returns c = proved
