use Rattle.ng_machine.proofs.Preserving.{readers_preserve as proved}
use Rattle.ng_machine.proofs.laws.readers_preserve.Goals as goal

pub returns : goal.returns
returns c = proved
