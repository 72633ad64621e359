use Rattle.std.proofs.Common.{◌≡◌, length}
use Rattle.ngctl_script.specs.Forms.{bytes_in}
use Rattle.ngctl_script.specs.Words.{words_in}
use Rattle.ngctl_script.proofs.Written.{onto}
use Rattle.ngctl_script.proofs.bytes.read_bytes.Given as goal

abbrev pub invariant-loop-word : goal.invariant-loop-word
invariant-loop-word l = bytes_in (words_in l.text) ≡ onto l.bytes.items (bytes_in (words_in l.rest))

abbrev pub decreases-loop-word : goal.decreases-loop-word
decreases-loop-word l = length l.rest
