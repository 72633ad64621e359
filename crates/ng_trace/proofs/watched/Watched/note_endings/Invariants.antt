-- What is left to be noted leads to the same.
use Rattle.std.proofs.Common.{◌≡◌, drop}
use Rattle.ng_trace.specs.Watched.{note_endings}
use Rattle.ng_trace.proofs.watched.Watched.note_endings.Given as goal

abbrev pub invariant-loop-why : goal.invariant-loop-why
invariant-loop-why l = note_endings l.spot l.self (drop l.why-index l.endings) ≡ note_endings l.spot l.fn.self l.endings
