use Rattle.ng_machine.proofs.story.OfDesks.{close_tells as proved}
use Rattle.ng_machine.proofs.story.desk_laws.close_tells.Goals as goal

pub returns : goal.returns
returns c = proved
