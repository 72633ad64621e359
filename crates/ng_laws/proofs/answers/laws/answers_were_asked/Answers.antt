use Rattle.ng_laws.proofs.answers.Runs.{answers_were_asked as proved}
use Rattle.ng_laws.proofs.answers.laws.answers_were_asked.Goals as goal

pub returns : goal.returns
returns c = proved
