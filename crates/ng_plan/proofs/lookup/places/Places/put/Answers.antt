-- The number of the place goes under the name, and the other numbers keep their places.
use Rattle.std.proofs.Common.{Result, Ok, Err, OnErr, refl}
use Rattle.ng_plan.proofs.lookup.Placing.{again_placed, none_numbered, put_placed, same_placed}
use Rattle.ng_plan.proofs.lookup.places.Places.put.Goals as goal

on_err : {T E P : Type 0} (r : Result T E) → P → OnErr r P
on_err (Ok value) p = tt
on_err (Err error) p = p

pub returns-in_err-reserve-clause-err : goal.returns-in_err-reserve-clause-err
returns-in_err-reserve-clause-err c =
    on_err c.from_residual.result
    (rw (← c.self.view_is)
    (again_placed c.self.inside.numbers c.reserve.new.self c.self.inside.order.standing c.self.inside.order.standing c.reserve.ensures.same refl))

pub returns-in_err-number-clause-err : goal.returns-in_err-number-clause-err
returns-in_err-number-clause-err c =
    on_err c.from_residual-in_err-number.result
    (rw (← c.self.view_is)
    (same_placed c.self.inside.numbers c.reserve.new.self c.self.inside.order c.number_of.new.self
    c.self.invariant c.reserve.ensures.same c.number_of.ensures.keeps))

pub put-requires-clause-fresh : goal.put-requires-clause-fresh
put-requires-clause-fresh c =
    none_numbered c.self.inside.numbers c.reserve.new.self c.self.inside.order.standing c.args.name c.reserve.ensures.same
    (rw (← c.self.view_is) at c.requires)

pub returns-clause-ok : goal.returns-clause-ok
returns-clause-ok c =
    rw (← c.self.view_is)
    (put_placed c.self.inside.numbers c.reserve.new.self c.put.new.self c.self.inside.order c.number_of.new.self c.args.name c.in_ok-number.number c.args.place
    c.self.invariant c.reserve.ensures.same c.number_of.ensures.keeps c.put.ensures c.in_ok-number.ensures.place)
