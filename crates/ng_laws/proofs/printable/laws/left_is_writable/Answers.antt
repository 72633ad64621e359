use Rattle.ng_laws.proofs.printable.Worlds.{left_is_writable as proved}
use Rattle.ng_laws.proofs.printable.laws.left_is_writable.Goals as goal

pub returns : goal.returns
returns c = proved
