use Rattle.ng_call.proofs.MadeInForm.{made_in_form}
use Rattle.ng_call.proofs.laws.made_is_in_form.Goals as goal

pub returns : goal.returns
returns c = made_in_form
