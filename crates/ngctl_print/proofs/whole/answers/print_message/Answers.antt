use Rattle.std.proofs.lemmas.Result.{err_from_is_err_and}
use Rattle.ng_shape.specs.Shape.{shape_of}
use Rattle.ngctl_print.proofs.Printing.{printed_more, stopped_before, handed_on}
use Rattle.ngctl_print.specs.whole.Answers.{value_line}
use Rattle.ngctl_print.proofs.whole.answers.print_message.Goals as goal

pub returns : goal.returns
returns g c = printed_more _ _ _ _ _ _ _ _ _ c.in_ok-print_head.ensures c.print_value.ensures

pub returns-in_err-print_head : goal.returns-in_err-print_head
returns-in_err-print_head g c =
    let p = err_from_is_err_and c.from_residual.result c.from_residual.ensures.1 in
    handed_on _ _ _ _ _ _ _ _ p.1 p.2
    (stopped_before _ _ _ _ c.in_err-print_head.field-0.0 _ (value_line (shape_of c.args.row.now.answer.now) c.args.bytes.now) c.in_err-print_head.ensures)
