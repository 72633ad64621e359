use Rattle.std.proofs.Common.{◌≡◌, ◌-◌, suc, length, sym, ◌∙◌, arith}
use Rattle.ngctl_script.proofs.Ends.{line_at_place, line_without_end}
use Rattle.ngctl_script.proofs.lines.next_line.Goals as goal

pub returns-in-None-clause-line : goal.returns-in-None-clause-line
returns-in-None-clause-line c =
    let some : length c.args.text.now ≡ suc (length c.args.text.now - 1) = grind arith in
    line_without_end c.args.text.now (length c.args.text.now - 1) some (sym c.first_end.ensures ∙ c.in-None.is)

pub returns-in-Some-clause-line : goal.returns-in-Some-clause-line
returns-in-Some-clause-line c =
    rw c.without_return.ensures (line_at_place c.args.text.now c.in-Some.place (sym c.first_end.ensures ∙ c.in-Some.is))
