use Rattle.std.proofs.Common.{◌≡◌, drop}
use Rattle.ng_forecast.specs.Moving.{moving}
use Rattle.ng_forecast.proofs.read.moving.Given as goal

abbrev pub invariant-loop-when : goal.invariant-loop-when
invariant-loop-when l = moving (drop l.when-index l.script) ≡ moving l.script
