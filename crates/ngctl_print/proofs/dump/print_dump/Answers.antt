use Rattle.std.proofs.Common.{ℕ, ◌<◌, ◌≤◌, List, length, arith}
use Rattle.std.proofs.lemmas.List.FromFn.{length-range_with_len}
use Rattle.std.proofs.lemmas.Result.{err_from_is_err_and}
use Rattle.std.specs.Int.{div_ceil}
use Rattle.std.specs.List.{range_with_len}
use Rattle.ngctl_print.specs.Dump.{row_text}
use Rattle.ngctl_print.proofs.Printing.{item_printed, item_stopped, all_printed, handed_on}
use Rattle.ngctl_print.proofs.Rows.{node_at}
use Rattle.ngctl_print.proofs.dump.print_dump.Goals as goal

abbrev rows_of : List ℕ → List ℕ
rows_of packet = range_with_len 0 (div_ceil (length packet) 16)

pub returns : goal.returns
returns g c =
    let all : length (rows_of c.args.packet.now) ≤ c.loop-row.row = omega (arith, length-range_with_len 0 (div_ceil (length c.args.packet.now) 16)) in
    all_printed (row_text c.args.packet.now) (rows_of c.args.packet.now) c.loop-row.row _ _ _ _ all c.loop-row.invariant

pub loop-row-preserved : goal.loop-row-preserved
loop-row-preserved g c =
    let below : c.loop-row.row < div_ceil (length c.args.packet.now) 16 = omega arith in
    let inside : c.loop-row.row < length (rows_of c.args.packet.now) = omega (arith, length-range_with_len 0 (div_ceil (length c.args.packet.now) 16)) in
    item_printed (row_text c.args.packet.now) (rows_of c.args.packet.now) c.loop-row.row 0 _ _ _ _ _ _ inside c.loop-row.invariant
    (rw (node_at (div_ceil (length c.args.packet.now) 16) c.loop-row.row below) c.in_ok-print_row.ensures)

pub returns-in_err-print_row : goal.returns-in_err-print_row
returns-in_err-print_row g c =
    let below : c.loop-row.row < div_ceil (length c.args.packet.now) 16 = omega arith in
    let inside : c.loop-row.row < length (rows_of c.args.packet.now) = omega (arith, length-range_with_len 0 (div_ceil (length c.args.packet.now) 16)) in
    let p = err_from_is_err_and c.from_residual-in_err-print_row.result c.from_residual-in_err-print_row.ensures.1 in
    handed_on _ _ _ _ _ _ _ _ p.1 p.2
    (item_stopped (row_text c.args.packet.now) (rows_of c.args.packet.now) c.loop-row.row 0 _ _ _ _ _ _ c.in_err-print_row.field-0.0 inside c.loop-row.invariant
    (rw (node_at (div_ceil (length c.args.packet.now) 16) c.loop-row.row below) c.in_err-print_row.ensures))
