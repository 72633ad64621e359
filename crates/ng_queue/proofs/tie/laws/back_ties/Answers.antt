use Rattle.ng_queue.proofs.tie.OfQueues.{back_ties as proved}
use Rattle.ng_queue.proofs.tie.laws.back_ties.Goals as goal

pub returns : goal.returns
returns c = proved
