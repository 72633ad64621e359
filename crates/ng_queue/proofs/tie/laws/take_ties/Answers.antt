use Rattle.ng_queue.proofs.tie.OfQueues.{take_ties as proved}
use Rattle.ng_queue.proofs.tie.laws.take_ties.Goals as goal

pub returns : goal.returns
returns c = proved
