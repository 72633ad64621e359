use Rattle.ng_machine.proofs.Lowering.{runs_are_low as proved}
use Rattle.ng_machine.proofs.laws.runs_are_low.Goals as goal

pub returns : goal.returns
returns c = proved
