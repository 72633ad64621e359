use Rattle.std.proofs.Common.{inr}
use Rattle.ngtrace.proofs.tell.tell.Goals as goal

-- where memory ran out the line of that is put
pub returns-in-Err-clause-told : goal.returns-in-Err-clause-told
returns-in-Err-clause-told g c = λ line made. inr c.put-in-Err.ensures
