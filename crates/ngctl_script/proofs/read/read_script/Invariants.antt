use Rattle.std.proofs.Common.{length}
use Rattle.ngctl_script.specs.Lines.{lines_of}
use Rattle.ngctl_script.proofs.Steps.{IsReadSoFar}
use Rattle.ngctl_script.proofs.read.read_script.Given as goal

abbrev pub invariant-loop-line : goal.invariant-loop-line
invariant-loop-line l = IsReadSoFar l.bytes l.reading (lines_of l.rest)

abbrev pub decreases-loop-line : goal.decreases-loop-line
decreases-loop-line l = length l.rest
