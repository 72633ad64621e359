use Rattle.ng_laws.proofs.printable.Worlds.{told_is_printable as proved}
use Rattle.ng_laws.proofs.printable.laws.told_is_printable.Goals as goal

pub returns : goal.returns
returns c = proved
