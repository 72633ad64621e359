use Rattle.ng_machine.proofs.story.OfDesks.{feed_tells as proved}
use Rattle.ng_machine.proofs.story.desk_laws.feed_tells.Goals as goal

pub returns : goal.returns
returns c = proved
