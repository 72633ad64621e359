-- The row of the link, or none.
use Rattle.std.proofs.Common.{◌≡◌, length, sym, ap, ◌∙◌, arith}
use Rattle.ng_machine.specs.kinds.One2many.{link_hook}
use Rattle.ng_switch_types.proofs.one2many.Asked.{row_there, row_absent}
use Rattle.ng_switch_types.proofs.one2many.messages.row_in.Goals as goal

pub returns-in-Some-row : goal.returns-in-Some-row
returns-in-Some-row c =
    let long : length c.args.args.now ≡ 4 = omega arith in
    λ reply. row_there c.args.one2many.now c.args.args.now _ _ long (sym (c.in-Some.ensures ∙ ap link_hook c.u32_at.ensures.value)) (sym c.in-Some-row.ensures) reply

pub returns-in-None : goal.returns-in-None
returns-in-None c =
    let long : length c.args.args.now ≡ 4 = omega arith in
    λ reply. row_absent c.args.one2many.now c.args.args.now _ long (sym (c.in-Some.ensures ∙ ap link_hook c.u32_at.ensures.value)) (sym c.in-None.ensures) reply
