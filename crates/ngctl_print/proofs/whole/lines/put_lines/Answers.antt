use Rattle.std.proofs.lemmas.Result.{err_from_is_err_and}
use Rattle.ngctl_print.proofs.Printing.{handed_on}
use Rattle.ngctl_print.proofs.whole.LineByLine.{line_printed, line_stopped}
use Rattle.ngctl_print.proofs.whole.lines.put_lines.Goals as goal

pub loop-rest-preserved : goal.loop-rest-preserved
loop-rest-preserved g c = line_printed _ _ _ _ _ _ _ _ _ _ c.loop-rest.invariant c.split_line.ensures.whole c.in_ok-put_line.ensures

pub returns-in_err-put_line : goal.returns-in_err-put_line
returns-in_err-put_line g c =
    let p = err_from_is_err_and c.from_residual.result c.from_residual.ensures.1 in
    handed_on _ _ _ _ _ _ _ _ p.1 p.2
    (line_stopped _ _ _ _ _ _ _ _ _ _ c.in_err-put_line.field-0.0 c.loop-rest.invariant c.split_line.ensures.whole c.in_err-put_line.ensures)
