-- Those that were there keep their places, and each time there is one more.
use Rattle.std.proofs.Common.{◌+◌, ◌-◌, length}
use Rattle.ng_plan.specs.lookup.Order.{KeepsPlaces}
use Rattle.ng_plan.proofs.lookup.order.Order.number_of.Given as goal

abbrev pub invariant-loop-self : goal.invariant-loop-self
invariant-loop-self l = KeepsPlaces l.initial.self l.self

abbrev pub decreases-loop-self : goal.decreases-loop-self
decreases-loop-self l = l.place + 1 - length l.self.standing
