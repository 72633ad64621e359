use Rattle.ng_queue.proofs.tie.Leaving.{counts_leave as proved}
use Rattle.ng_queue.proofs.tie.laws.counts_leave.Goals as goal

pub returns : goal.returns
returns c = proved
