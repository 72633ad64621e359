-- What stands at its own place, or what a search among numbers that rise finds.
use Rattle.std.proofs.Common.{◌≡◌, ◌<◌, rules, length, sym, ◌∙◌, arith}
use Rattle.std.proofs.lemmas.List.{get_or_default}
use Rattle.ng_plan.proofs.lookup.Orders.{place_found, place_missed, place_standing}
use Rattle.ng_plan.proofs.lookup.order.Order.place_of.Goals as goal

pub returns-then-index-number : goal.returns-then-index-number
returns-then-index-number c =
    let long : c.self.inside.standing.len ≡ length c.self.inside.standing.items = search rules in
    let within : c.args.number < length c.self.inside.standing.items = omega arith in
    rw (← c.self.view_is)
    (sym (place_standing c.self.inside.standing.items c.args.number c.args.number c.self.invariant.rising within
    (get_or_default c.self.inside.standing.items c.args.number 0 c.index.result.now within ∙ sym c.index.ensures ∙ c.if-index-number.true)))

pub returns-in-Ok : goal.returns-in-Ok
returns-in-Ok c =
    rw (← c.self.view_is)
    (place_found c.self.inside.standing.items c.args.number c.in-Ok.at c.self.invariant.rising (rw c.deref.ensures.value at c.in-Ok.ensures.ok))

pub returns-in-Err : goal.returns-in-Err
returns-in-Err c =
    rw (← c.self.view_is)
    (place_missed c.self.inside.standing.items c.args.number c.in-Err.at c.self.invariant.rising (rw c.deref.ensures.value at c.in-Err.ensures.position))
