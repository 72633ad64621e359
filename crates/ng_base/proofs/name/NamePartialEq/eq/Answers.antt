-- Names are the same where their texts are.
use Rattle.std.proofs.Common.{sym}
use Rattle.ng_base.proofs.NameOrder.{names_same}
use Rattle.ng_base.proofs.name.NamePartialEq.eq.Goals as goal

pub returns : goal.returns
returns c =
    let one = c.self.inside in
    let two = c.other.inside in
    rw (c.is_same_text.ensures, ← c.self.view_is, ← c.other.view_is) (sym (names_same one.len one.text two.len two.text c.self.invariant c.other.invariant))
