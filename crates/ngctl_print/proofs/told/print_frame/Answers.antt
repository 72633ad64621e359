use Rattle.std.proofs.Common.{◌∙◌}
use Rattle.std.proofs.lemmas.Result.{err_from_is_err_and}
use Rattle.ngctl_print.specs.Dump.{dump}
use Rattle.ngctl_print.specs.Text.{frame_line}
use Rattle.ngctl_print.proofs.Printing.{printed_more, stopped_before, same_text, handed_on}
use Rattle.ngctl_print.proofs.told.print_frame.Goals as goal

pub returns : goal.returns
returns g c =
    printed_more _ _ _ _ _ _ _ (frame_line c.args.hook.now) (dump c.args.packet.now)
    (same_text _ _ _ _ _ _ _ (c.as_bytes.ensures.value ∙ c.in_ok-head.ensures) c.in_ok-put_line.ensures) c.print_dump.ensures

pub returns-in_err-put_line : goal.returns-in_err-put_line
returns-in_err-put_line g c =
    let p = err_from_is_err_and c.from_residual-in_err-put_line.result c.from_residual-in_err-put_line.ensures.1 in
    handed_on _ _ _ _ _ _ _ _ p.1 p.2
    (stopped_before _ _ _ _ c.in_err-put_line.field-0.0 (frame_line c.args.hook.now) (dump c.args.packet.now)
    (same_text _ _ _ _ _ _ _ (c.as_bytes.ensures.value ∙ c.in_ok-head.ensures) c.in_err-put_line.ensures))
