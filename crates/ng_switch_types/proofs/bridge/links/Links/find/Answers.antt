-- What the search found is the link of that number.
use Rattle.std.proofs.Common.{sym, ◌∙◌}
use Rattle.ng_sorted.specs.Order.{IsPlace, IsGap}
use Rattle.ng_sorted.proofs.InOrder.{find_place, find_gap, get_at}
use Rattle.ng_switch_types.proofs.bridge.LinkLists.{number_of}
use Rattle.ng_switch_types.proofs.bridge.links.Links.find.Goals as goal

pub returns-in-Ok : goal.returns-in-Ok
returns-in-Ok c =
    let links = c.self.inside.links.items in
    let at : IsPlace number_of links c.args.number c.in-Ok.at = rw (c.deref.ensures.value, c.from.ensures) at c.in-Ok.ensures.found in
    rw (← c.self.view_is) (sym (find_place number_of links c.args.number c.in-Ok.at at ∙ get_at links c.in-Ok.at c.index.result.now at.in_range c.index.ensures))

pub returns-in-Err : goal.returns-in-Err
returns-in-Err c =
    let links = c.self.inside.links.items in
    let at : IsGap number_of links c.args.number c.in-Err.field-0 = rw (c.deref.ensures.value, c.from.ensures) at c.in-Err.ensures.missing in
    rw (← c.self.view_is) (sym (find_gap number_of links c.args.number c.in-Err.field-0 at))
