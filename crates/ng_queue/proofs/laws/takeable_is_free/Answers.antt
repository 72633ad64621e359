use Rattle.ng_queue.proofs.TakeableLemmas.{takeable_free}
use Rattle.ng_queue.proofs.laws.takeable_is_free.Goals as goal

pub returns : goal.returns
returns c = takeable_free
