use Rattle.ng_machine.proofs.story.OfDesks.{back_tells as proved}
use Rattle.ng_machine.proofs.story.desk_laws.back_tells.Goals as goal

pub returns : goal.returns
returns c = proved
