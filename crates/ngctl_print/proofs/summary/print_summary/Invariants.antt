use Rattle.std.proofs.Common.{◌≡◌, map, take, Ok, string_bytes}
use Rattle.std.specs.List.{flat_map}
use Rattle.ngctl_print.specs.Prints.{Prints}
use Rattle.ngctl_print.specs.Text.{summary_lines}
use Rattle.ngctl_print.proofs.summary.print_summary.Given as goal

abbrev pub invariant-loop-line : goal.invariant-loop-line
invariant-loop-line g l = record {
  lines : map string_bytes l.line-items ≡ summary_lines l.totals l.fed l.of l.stopped;
  printed : Prints (g.O.Sink.contents l.fn.out) (g.O.Sink.contents l.out) (g.O.Sink.faults l.fn.out) (g.O.Sink.faults l.out) (Ok tt) (flat_map string_bytes (take l.line-index l.line-items));
}
