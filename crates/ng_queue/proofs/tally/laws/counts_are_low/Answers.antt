use Rattle.ng_queue.proofs.tally.LowCounts.{counts_are_low as proved}
use Rattle.ng_queue.proofs.tally.laws.counts_are_low.Goals as goal

pub returns : goal.returns
returns c = proved
