use Rattle.std.proofs.lemmas.Result.{err_from_is_err_and}
use Rattle.ngctl_print.proofs.Printing.{item_printed, item_stopped, all_printed, handed_on}
use Rattle.ngctl_print.specs.whole.Text.{report_line}
use Rattle.ngctl_print.proofs.whole.report.print_ports.Goals as goal

pub returns : goal.returns
returns g c = all_printed report_line c.args.ports.now c.loop-port.port-index _ _ _ _ c.loop-port-test.false c.loop-port.invariant

pub loop-port-preserved : goal.loop-port-preserved
loop-port-preserved g c =
    item_printed report_line c.args.ports.now c.loop-port.port-index c.port-item.result _ _ _ _ _ _ c.loop-port-test.true c.loop-port.invariant
    (rw (← c.port-item.is) c.in_ok-print_port.ensures)

pub returns-in_err-print_port : goal.returns-in_err-print_port
returns-in_err-print_port g c =
    let p = err_from_is_err_and c.from_residual.result c.from_residual.ensures.1 in
    handed_on _ _ _ _ _ _ _ _ p.1 p.2
    (item_stopped report_line c.args.ports.now c.loop-port.port-index c.port-item.result _ _ _ _ _ _ c.in_err-print_port.field-0.0 c.loop-port-test.true c.loop-port.invariant
    (rw (← c.port-item.is) c.in_err-print_port.ensures))
