use Rattle.std.proofs.Common.{take, Ok}
use Rattle.std.specs.List.{flat_map}
use Rattle.ngctl_print.specs.Prints.{Prints}
use Rattle.ngctl_print.specs.whole.Text.{report_line}
use Rattle.ngctl_print.proofs.whole.report.print_ports.Given as goal

abbrev pub invariant-loop-port : goal.invariant-loop-port
invariant-loop-port g l = Prints (g.O.Sink.contents l.fn.out) (g.O.Sink.contents l.out) (g.O.Sink.faults l.fn.out) (g.O.Sink.faults l.out) (Ok tt) (flat_map report_line (take l.port-index l.ports))
