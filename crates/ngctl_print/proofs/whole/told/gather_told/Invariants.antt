use Rattle.std.proofs.Common.{◌≤◌, take}
use Rattle.std.specs.List.{flat_map}
use Rattle.ng_outside.specs.Write.{Written}
use Rattle.ngctl_print.specs.whole.Told.{told_text}
use Rattle.ngctl_print.proofs.whole.told.gather_told.Given as goal

abbrev pub invariant-loop-entry : goal.invariant-loop-entry
invariant-loop-entry g l = record {
  written : Written (g.O.Sink.contents l.fn.out) (g.O.Sink.contents l.out) (flat_map (told_text l.commands) (take l.entry-index l.told)) l.piece.bytes;
  counts : g.O.Sink.faults l.fn.out ≤ g.O.Sink.faults l.out;
}
