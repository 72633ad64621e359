use Rattle.ng_queue.proofs.tie.OfQueues.{done_ties as proved}
use Rattle.ng_queue.proofs.tie.laws.done_ties.Goals as goal

pub returns : goal.returns
returns c = proved
