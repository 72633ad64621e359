use Rattle.std.proofs.Common.{length, take, Ok}
use Rattle.std.specs.Int.{div_ceil}
use Rattle.std.specs.List.{flat_map, range_with_len}
use Rattle.ngctl_print.specs.Dump.{row_text}
use Rattle.ngctl_print.specs.Prints.{Prints}
use Rattle.ngctl_print.proofs.dump.print_dump.Given as goal

abbrev pub invariant-loop-row : goal.invariant-loop-row
invariant-loop-row g l = Prints (g.O.Sink.contents l.fn.out) (g.O.Sink.contents l.out) (g.O.Sink.faults l.fn.out) (g.O.Sink.faults l.out) (Ok tt) (flat_map (row_text l.packet) (take l.row (range_with_len 0 (div_ceil (length l.packet) 16))))
