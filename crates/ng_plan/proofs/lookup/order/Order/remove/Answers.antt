-- The number goes, and the places behind it go one down; or there is none so far behind.
use Rattle.std.proofs.Common.{◌≡◌, rules, length, arith}
use Rattle.ng_plan.proofs.lookup.Orders.{place_behind, place_removed, rising_removed}
use Rattle.ng_plan.proofs.lookup.order.Order.remove.Goals as goal

pub invariant_of-self : goal.invariant_of-self
invariant_of-self c =
    let long : c.self.inside.standing.len ≡ length c.self.inside.standing.items = search rules in
    rw c.remove-number.ensures.items
    (rising_removed c.self.inside.standing.items c.args.place c.self.inside.next c.self.invariant (omega arith))

pub returns-then-place-len-clause-places : goal.returns-then-place-len-clause-places
returns-then-place-len-clause-places c number =
    rw (c.remove-number.ensures.items, ← c.self.view_is)
    (place_removed c.self.inside.standing.items c.args.place number c.self.invariant.rising)

pub returns-else-place-len-clause-places : goal.returns-else-place-len-clause-places
returns-else-place-len-clause-places c number =
    let long : c.self.inside.standing.len ≡ length c.self.inside.standing.items = search rules in
    rw (← c.self.view_is)
    (place_behind c.self.inside.standing.items c.args.place number (omega arith))
