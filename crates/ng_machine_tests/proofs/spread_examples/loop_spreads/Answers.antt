use Rattle.std.specs.Prelude.{refl}
use Rattle.ng_machine_tests.proofs.spread_examples.loop_spreads.Goals as goal

pub returns : goal.returns
returns c = (refl, refl)
