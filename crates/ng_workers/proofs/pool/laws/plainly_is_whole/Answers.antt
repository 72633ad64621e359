use Rattle.ng_workers.proofs.pool.PlainRuns.{plainly_is_whole as proved}
use Rattle.ng_workers.proofs.pool.laws.plainly_is_whole.Goals as goal

pub returns : goal.returns
returns c = proved
