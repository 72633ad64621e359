use Rattle.ng_machine.proofs.story.OfDesks.{give_up_tells as proved}
use Rattle.ng_machine.proofs.story.desk_laws.give_up_tells.Goals as goal

pub returns : goal.returns
returns c = proved
