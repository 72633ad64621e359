use Rattle.ng_laws.proofs.printable.Worlds.{answers_have_text as proved}
use Rattle.ng_laws.proofs.printable.laws.answers_have_text.Goals as goal

pub returns : goal.returns
returns c = proved
