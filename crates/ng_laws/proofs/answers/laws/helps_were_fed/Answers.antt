use Rattle.ng_laws.proofs.answers.Runs.{helps_were_fed as proved}
use Rattle.ng_laws.proofs.answers.laws.helps_were_fed.Goals as goal

pub returns : goal.returns
returns c = proved
