-- Where no number stands under a name, no place does.
use Rattle.ng_plan.proofs.lookup.Placing.{none_placed}
use Rattle.ng_plan.proofs.lookup.places.Places.new.Goals as goal

pub returns : goal.returns
returns c = none_placed c.new.result c.new-2.result.standing c.new.ensures
