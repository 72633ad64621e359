use Rattle.std.proofs.Common.{length}
use Rattle.ngctl_print.proofs.whole.LineByLine.{Going}
use Rattle.ngctl_print.proofs.whole.lines.put_lines.Given as goal

abbrev pub invariant-loop-rest : goal.invariant-loop-rest
invariant-loop-rest g l = Going (g.O.Sink.contents l.fn.out) (g.O.Sink.contents l.out) (g.O.Sink.faults l.fn.out) (g.O.Sink.faults l.out) l.text l.rest

abbrev pub decreases-loop-rest : goal.decreases-loop-rest
decreases-loop-rest g l = length l.rest
