-- The name is left out, and the numbers behind that of the place lead one down.
use Rattle.ng_plan.proofs.lookup.Placing.{cut_placed}
use Rattle.ng_plan.proofs.lookup.places.Places.cut.Goals as goal

pub returns : goal.returns
returns c =
    rw (← c.self.view_is)
    (cut_placed c.self.inside.numbers c.remove.new.self c.self.inside.order.standing c.remove-2.new.self.standing c.args.name.now c.args.place
    c.remove.ensures c.remove-2.ensures.places)
