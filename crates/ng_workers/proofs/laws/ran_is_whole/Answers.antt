use Rattle.ng_workers.proofs.WholeRuns.{ran_is_whole as proved}
use Rattle.ng_workers.proofs.laws.ran_is_whole.Goals as goal

pub returns : goal.returns
returns c = proved
