use Rattle.ng_queue.proofs.tally.CountsOfWorld.{counts_are_of_world as proved}
use Rattle.ng_queue.proofs.tally.laws.counts_are_of_world.Goals as goal

pub returns : goal.returns
returns c = proved
