-- The third mode subtracts, by what is missing to the next power.
use Rattle.std.proofs.Common.{◌+◌, ◌-◌, ap}
use Rattle.ng_plan.proofs.patch.work.Goals as goal

pub returns-in-3 : goal.returns-in-3
returns-in-3 c = rw c.in-3.is (ap (λ m. c.args.x + (m - c.args.v)) c.modulus.ensures)
