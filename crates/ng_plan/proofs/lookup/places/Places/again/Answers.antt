-- A copy of the numbers leads to the same places.
use Rattle.std.proofs.Common.{ap}
use Rattle.ng_plan.specs.lookup.Order.{Numbers}
use Rattle.ng_plan.proofs.lookup.Placing.{again_placed}
use Rattle.ng_plan.proofs.lookup.places.Places.again.Goals as goal

pub returns : goal.returns
returns c =
    rw (← c.self.view_is)
    (again_placed c.self.inside.numbers c.in_ok-again.field-0 c.self.inside.order.standing c.in_ok-again-2.field-0.standing
    c.in_ok-again.ensures (ap (λ (n : Numbers). n.standing) c.in_ok-again-2.ensures))
