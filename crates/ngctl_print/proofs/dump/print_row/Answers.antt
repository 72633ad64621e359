use Rattle.std.proofs.Common.{ℕ, ◌*◌, List, ap, ◌∙◌, arith}
use Rattle.ngctl_print.specs.Dump.{dump_row, row_text}
use Rattle.ngctl_print.proofs.Printing.{same_text}
use Rattle.ngctl_print.proofs.Rows.{row_bytes}
use Rattle.ngctl_print.proofs.dump.print_row.Goals as goal

pub returns : goal.returns
returns g c =
    same_text _ _ _ _ _ _ (row_text c.args.packet.now c.args.row)
    (c.as_slice.ensures.value ∙ c.in-Ok.ensures
    ∙ ap (λ (bytes : List ℕ). dump_row (16 * c.args.row) bytes) (row_bytes c.args.packet.now (16 * c.args.row) c.min-end.result (omega arith)))
    c.put_line.ensures
