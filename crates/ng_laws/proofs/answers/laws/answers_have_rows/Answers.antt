use Rattle.ng_laws.proofs.answers.Runs.{answers_have_rows as proved}
use Rattle.ng_laws.proofs.answers.laws.answers_have_rows.Goals as goal

pub returns : goal.returns
returns c = proved
