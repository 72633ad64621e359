use Rattle.ng_queue.proofs.tie.OfQueues.{purge_ties as proved}
use Rattle.ng_queue.proofs.tie.laws.purge_ties.Goals as goal

pub returns : goal.returns
returns c = proved
