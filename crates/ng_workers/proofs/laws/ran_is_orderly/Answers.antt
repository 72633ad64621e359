use Rattle.ng_workers.proofs.PartJournals.{ran_is_orderly as proved}
use Rattle.ng_workers.proofs.laws.ran_is_orderly.Goals as goal

pub returns : goal.returns
returns c = proved
