-- The number that stands at the place leads back to it.
use Rattle.std.proofs.Common.{◌≡◌, ◌<◌, rules, length, sym, ap, ◌∙◌, arith}
use Rattle.std.proofs.lemmas.List.{get_or_default}
use Rattle.ng_plan.specs.lookup.Order.{Numbers}
use Rattle.ng_plan.proofs.lookup.Orders.{place_standing}
use Rattle.ng_plan.proofs.lookup.order.Order.number_of.Goals as goal

pub returns-clause-place : goal.returns-clause-place
returns-clause-place c =
    let long : c.self.inside.standing.len ≡ length c.self.inside.standing.items = search rules in
    let same : length c.self-2.inside.standing.items ≡ length c.self.inside.standing.items
    = ap (λ (n : Numbers). length n.standing) (c.self-2.view_is ∙ sym c.self.view_is) in
    let within : c.args.place < length c.self-2.inside.standing.items = omega arith in
    rw (← c.self-2.view_is)
    (place_standing c.self-2.inside.standing.items c.index.result.now c.args.place c.self-2.invariant.rising within
    (get_or_default c.self-2.inside.standing.items c.args.place 0 c.index.result.now within ∙ sym c.index.ensures))
