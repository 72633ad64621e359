use Rattle.std.proofs.Common.{◌++◌, arith}
use Rattle.std.proofs.lemmas.Result.{err_from_is_err_and}
use Rattle.std.specs.List.{flat_map}
use Rattle.ngctl_print.specs.whole.Text.{summary_of, report_line}
use Rattle.ngctl_print.proofs.whole.Pieces.{short, stopped_with, handed_on}
use Rattle.ngctl_print.proofs.whole.text.gather_text.Goals as goal

pub returns-in_err-gather_told : goal.returns-in_err-gather_told
returns-in_err-gather_told g c =
    let p = err_from_is_err_and c.from_residual.result c.from_residual.ensures.1 in
    handed_on _ _ _ _ _ _ _ _ _ p.1 p.2
    (stopped_with _ _ _ _ _ c.in_err-gather_told.field-0.0 _ (summary_of c.args.summary.now ++ flat_map report_line c.args.ports.now) _ _ (omega arith) c.in_err-gather_told.ensures)

pub returns-in-Err : goal.returns-in-Err
returns-in-Err g c = short _ _ _ _ _ _ _ _ c.in_ok-gather_told.ensures.counts c.in_ok-gather_told.ensures.whole
