use Rattle.ng_workers.proofs.pool.PlainRuns.{plainly_is_plain as proved}
use Rattle.ng_workers.proofs.pool.laws.plainly_is_plain.Goals as goal

pub returns : goal.returns
returns c = proved
