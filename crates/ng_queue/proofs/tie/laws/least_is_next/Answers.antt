use Rattle.ng_queue.proofs.tie.Heads.{least_is_next as proved}
use Rattle.ng_queue.proofs.tie.laws.least_is_next.Goals as goal

pub returns : goal.returns
returns c = proved
