use Rattle.ng_machine.proofs.Owed.{absorbing_preserves as proved}
use Rattle.ng_machine.proofs.laws.absorbing_preserves.Goals as goal

pub returns : goal.returns
returns c = proved
