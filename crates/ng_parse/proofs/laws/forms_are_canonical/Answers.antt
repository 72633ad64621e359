use Rattle.ng_parse.proofs.Fitting.{form_canonical}
use Rattle.ng_parse.proofs.laws.forms_are_canonical.Goals as goal

pub returns : goal.returns
returns c = form_canonical
