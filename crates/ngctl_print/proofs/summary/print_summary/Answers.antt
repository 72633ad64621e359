use Rattle.std.proofs.Common.{Err, string_bytes, arith}
use Rattle.std.proofs.lemmas.Result.{err_from_is_err_and}
use Rattle.ngctl_print.specs.Text.{summary_lines, summary_text}
use Rattle.ngctl_print.proofs.Lines.{joined}
use Rattle.ngctl_print.proofs.Printing.{item_printed, item_stopped, all_printed, same_text, handed_on}
use Rattle.ngctl_print.proofs.summary.print_summary.Goals as goal

pub returns : goal.returns
returns g c =
    same_text _ _ _ _ _ _ (summary_text c.args.totals.now c.args.fed c.args.of c.args.stopped) (joined c.in_ok-lines.lines (summary_lines c.args.totals.now c.args.fed c.args.of c.args.stopped) c.in_ok-lines.ensures)
    (all_printed string_bytes c.in_ok-lines.lines c.loop-line.line-index _ _ _ _ (omega arith) c.loop-line.invariant.printed)

pub loop-line-preserved : goal.loop-line-preserved
loop-line-preserved g c = record {
  lines = c.loop-line.invariant.lines;
  printed = item_printed string_bytes c.in_ok-lines.lines c.loop-line.line-index c.line-item.result _ _ _ _ _ _ (omega arith) c.loop-line.invariant.printed
      (same_text _ _ _ _ _ _ _ c.as_bytes.ensures.value c.in_ok-put_line.ensures);
}

pub returns-in_err-put_line : goal.returns-in_err-put_line
returns-in_err-put_line g c =
    let p = err_from_is_err_and c.from_residual-in_err-put_line.result c.from_residual-in_err-put_line.ensures.1 in
    handed_on _ _ _ _ _ _ _ _ p.1 p.2
    (same_text _ _ _ _ _ _ (summary_text c.args.totals.now c.args.fed c.args.of c.args.stopped) (joined c.in_ok-lines.lines (summary_lines c.args.totals.now c.args.fed c.args.of c.args.stopped) c.in_ok-lines.ensures)
    (item_stopped string_bytes c.in_ok-lines.lines c.loop-line.line-index c.line-item.result _ _ _ _ _ _ c.in_err-put_line.field-0.0 (omega arith) c.loop-line.invariant.printed
    (same_text _ _ _ _ (Err c.in_err-put_line.field-0.0) _ _ c.as_bytes.ensures.value c.in_err-put_line.ensures)))
