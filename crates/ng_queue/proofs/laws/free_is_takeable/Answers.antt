use Rattle.ng_queue.proofs.TakeableLemmas.{free_takeable}
use Rattle.ng_queue.proofs.laws.free_is_takeable.Goals as goal

pub returns : goal.returns
returns c = free_takeable
