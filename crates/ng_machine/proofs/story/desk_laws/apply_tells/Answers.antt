use Rattle.ng_machine.proofs.story.OfDesks.{apply_tells as proved}
use Rattle.ng_machine.proofs.story.desk_laws.apply_tells.Goals as goal

pub returns : goal.returns
returns c = proved
