-- No link has the number, and a new one in its place keeps the order.
use Rattle.ng_machine.specs.kinds.Bridge.{new_link, put_link}
use Rattle.ng_sorted.specs.Order.{IsInOrder, IsPlace, IsGap}
use Rattle.ng_sorted.proofs.InOrder.{place_is_found, either, ordered_insert}
use Rattle.ng_switch_types.proofs.bridge.LinkLists.{number_of, put_gap}
use Rattle.ng_switch_types.proofs.bridge.links.Links.add.Goals as goal

pub unreachable-requires : goal.unreachable-requires
unreachable-requires c =
    let links = c.self.inside.links.items in
    let at : IsPlace number_of links c.args.number c.in-Ok.field-0 = rw (c.deref.ensures.value, c.from.ensures) at c.in-Ok.ensures.found in
    place_is_found number_of links c.args.number c.in-Ok.field-0 at (rw (← c.self.view_is) at c.requires.fresh)

pub invariant_of-self : goal.invariant_of-self
invariant_of-self c =
    let links = c.self.inside.links.items in
    let x = new_link c.args.number in
    let at : IsGap number_of links c.args.number c.in-Err.at = rw (c.deref.ensures.value, c.from.ensures) at c.in-Err.ensures.missing in
    either (IsInOrder number_of) c.insert.result c.insert.new.links.items (put_link x links) links c.insert.ensures.ok c.insert.ensures.err
    (rw (put_gap links c.in-Err.at x at) (ordered_insert number_of links c.in-Err.at x c.self.invariant at)) c.self.invariant
