use Rattle.std.proofs.Common.{take, Ok}
use Rattle.std.specs.List.{flat_map}
use Rattle.ngctl_print.specs.Prints.{Prints}
use Rattle.ngctl_print.specs.whole.Help.{usage_line}
use Rattle.ngctl_print.proofs.whole.help.print_usages.Given as goal

abbrev pub invariant-loop-verb : goal.invariant-loop-verb
invariant-loop-verb g l = Prints (g.O.Sink.contents l.fn.out) (g.O.Sink.contents l.out) (g.O.Sink.faults l.fn.out) (g.O.Sink.faults l.out) (Ok tt) (flat_map usage_line (take l.verb-index l.verbs))
