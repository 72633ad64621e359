use Rattle.ng_path.proofs.Addresses.{reads_address as proved}
use Rattle.ng_path.proofs.laws.reads_address.Goals as goal

pub returns : goal.returns
returns c = proved
