-- The number under the name leads to the place.
use Rattle.std.proofs.Common.{Some, None, sym, ap, ◌∙◌}
use Rattle.ng_plan.proofs.lookup.Placing.{place_by_number}
use Rattle.ng_plan.proofs.lookup.places.Places.get.Goals as goal

pub returns-in-Some : goal.returns-in-Some
returns-in-Some c =
    rw (← c.self.view_is)
    (ap Some c.place_of.ensures
    ∙ place_by_number c.self.inside.numbers c.self.inside.order.standing c.args.name.now (Some c.in-Some.number) (sym c.in-Some.is ∙ c.get.ensures))

pub returns-in-None : goal.returns-in-None
returns-in-None c =
    rw (← c.self.view_is)
    (place_by_number c.self.inside.numbers c.self.inside.order.standing c.args.name.now None (sym c.in-None.is ∙ c.get.ensures))
