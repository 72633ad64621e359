-- The link of the number is changed, and where there is none nothing is.
use Rattle.std.proofs.Common.{refl, sym}
use Rattle.ng_machine.specs.kinds.Bridge.{Link}
use Rattle.ng_machine.specs.Counters.{zeros}
use Rattle.ng_sorted.specs.Order.{IsPlace, IsGap}
use Rattle.ng_sorted.proofs.InOrder.{change_none}
use Rattle.ng_switch_types.proofs.bridge.LinkLists.{number_of, changed, changed_order}
use Rattle.ng_switch_types.proofs.bridge.links.Links.clear.Goals as goal

pub invariant_of-self : goal.invariant_of-self
invariant_of-self c =
    let links = c.self.inside.links.items in
    let at : IsPlace number_of links c.args.number c.in-Ok.at = rw (c.deref.ensures.value, c.from.ensures) at c.in-Ok.ensures.found in
    let f = λ (l : Link). record l { counters = zeros 14 } in
    changed_order links c.args.number c.in-Ok.at f c.index_mut.result.now c.clear.new.self c.self.invariant at c.index_mut.ensures.value c.clear.ensures (λ l. refl)

pub returns-in-Ok : goal.returns-in-Ok
returns-in-Ok c =
    let links = c.self.inside.links.items in
    let at : IsPlace number_of links c.args.number c.in-Ok.at = rw (c.deref.ensures.value, c.from.ensures) at c.in-Ok.ensures.found in
    let f = λ (l : Link). record l { counters = zeros 14 } in
    changed links c.args.self.now c.args.number c.in-Ok.at f c.index_mut.result.now c.clear.new.self at c.index_mut.ensures.value c.clear.ensures c.self.view_is

pub returns-in_default : goal.returns-in_default
returns-in_default c =
    let links = c.self.inside.links.items in
    let at : IsGap number_of links c.args.number c.in_default.field-0 = rw (c.deref.ensures.value, c.from.ensures) at c.in_default.ensures.missing in
    let f = λ (l : Link). record l { counters = zeros 14 } in
    rw (← c.self.view_is) (sym (change_none number_of links c.args.number c.in_default.field-0 f at))
