use Rattle.std.proofs.Common.{inr, refl}
use Rattle.ngtrace.proofs.program.program.Goals as goal

-- there was no memory for the nodes
pub returns-in-Err : goal.returns-in-Err
returns-in-Err g c = inr (record { status_is = refl; same = c.in-Err.ensures.same; told = c.put.ensures })
