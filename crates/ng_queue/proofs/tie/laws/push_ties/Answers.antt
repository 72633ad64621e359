use Rattle.ng_queue.proofs.tie.OfQueues.{push_ties as proved}
use Rattle.ng_queue.proofs.tie.laws.push_ties.Goals as goal

pub returns : goal.returns
returns c = proved
