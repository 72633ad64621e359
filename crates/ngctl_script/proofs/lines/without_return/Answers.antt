use Rattle.std.proofs.Common.{◌≡◌, ◌+◌, ◌-◌, length, arith}
use Rattle.std.proofs.lemmas.Bool.{ne_eqb}
use Rattle.ngctl_script.proofs.Ends.{cr_dropped, cr_absent}
use Rattle.ngctl_script.proofs.lines.without_return.Goals as goal

pub returns-in-len1-up : goal.returns-in-len1-up
returns-in-len1-up c =
    let some : length c.args.line.now ≡ length c.args.line.now - 1 + 1 = grind arith in
    cr_dropped c.args.line.now (length c.args.line.now - 1) some c.if-last-eq13.true

pub returns-in_default-2 : goal.returns-in_default-2
returns-in_default-2 c =
    let some : length c.args.line.now ≡ length c.args.line.now - 1 + 1 = grind arith in
    cr_absent c.args.line.now (length c.args.line.now - 1) some (ne_eqb _ _ c.if-last-eq13.false)
