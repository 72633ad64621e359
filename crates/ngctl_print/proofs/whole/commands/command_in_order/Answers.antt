use Rattle.std.proofs.Common.{◌-◌, sym, ◌∙◌, arith}
use Rattle.ngctl_print.proofs.whole.InOrder.{none_below, at_place, got}
use Rattle.ngctl_print.proofs.whole.commands.command_in_order.Goals as goal

pub returns-then-number-eq0 : goal.returns-then-number-eq0
returns-then-number-eq0 c = sym (none_below 1 c.args.number c.args.commands.now (omega (arith, c.if-number-eq0.true)) c.requires)

pub returns : goal.returns
returns c =
    let lookup = c.get.ensures.lookup in
    got c.args.commands.now (c.args.number - 1) c.get.result lookup.0 lookup.1
    ∙ sym (at_place 1 c.args.number c.args.commands.now (omega (arith, c.if-number-eq0.false)) c.requires)
