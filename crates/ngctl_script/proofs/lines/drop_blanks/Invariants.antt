use Rattle.std.proofs.Common.{◌≡◌, length, reverse}
use Rattle.ngctl_script.specs.Lines.{past_blanks}
use Rattle.ngctl_script.proofs.lines.drop_blanks.Given as goal

abbrev pub invariant-loop-rest : goal.invariant-loop-rest
invariant-loop-rest l = reverse (past_blanks (reverse l.rest)) ≡ reverse (past_blanks (reverse l.text))

abbrev pub decreases-loop-rest : goal.decreases-loop-rest
decreases-loop-rest l = length l.rest
