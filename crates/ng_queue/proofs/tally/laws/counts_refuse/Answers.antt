use Rattle.ng_queue.proofs.tally.Refusals.{counts_refuse as proved}
use Rattle.ng_queue.proofs.tally.laws.counts_refuse.Goals as goal

pub returns : goal.returns
returns c = proved
