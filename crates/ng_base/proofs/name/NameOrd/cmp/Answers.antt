-- Names compare as their texts.
use Rattle.std.proofs.Common.{sym}
use Rattle.ng_base.proofs.NameOrder.{names_order}
use Rattle.ng_base.proofs.name.NameOrd.cmp.Goals as goal

pub returns : goal.returns
returns c =
    let one = c.self.inside in
    let two = c.other.inside in
    rw (c.order_of_texts.ensures, ← c.self.view_is, ← c.other.view_is) (sym (names_order one.len one.text two.len two.text c.self.invariant c.other.invariant))
