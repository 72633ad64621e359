-- What is left to be noted leads to the same.
use Rattle.std.proofs.Common.{◌≡◌, drop}
use Rattle.ng_trace.specs.Watched.{note_drops}
use Rattle.ng_trace.proofs.watched.Watched.note_drops.Given as goal

abbrev pub invariant-loop-spot : goal.invariant-loop-spot
invariant-loop-spot l = note_drops l.why l.self (drop l.spot-index l.spots) ≡ note_drops l.why l.fn.self l.spots
