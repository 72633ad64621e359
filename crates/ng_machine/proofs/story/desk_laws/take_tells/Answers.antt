use Rattle.ng_machine.proofs.story.OfDesks.{take_tells as proved}
use Rattle.ng_machine.proofs.story.desk_laws.take_tells.Goals as goal

pub returns : goal.returns
returns c = proved
