use Rattle.ng_parse.proofs.RoundTrip.{printed_form}
use Rattle.ng_parse.proofs.laws.printed_is_form_of.Goals as goal

pub returns : goal.returns
returns c = printed_form
