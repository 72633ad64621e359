use Rattle.ng_workers.proofs.PartJournals.{partly_is_orderly as proved}
use Rattle.ng_workers.proofs.pool.laws.partly_is_orderly.Goals as goal

pub returns : goal.returns
returns c = proved
