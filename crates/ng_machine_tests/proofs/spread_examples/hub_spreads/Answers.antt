use Rattle.std.specs.Prelude.{refl}
use Rattle.std.proofs.Common.{arith}
use Rattle.ng_machine_tests.proofs.spread_examples.hub_spreads.Goals as goal

pub returns : goal.returns
returns c = (refl, refl, refl, refl, refl, (λ pair. omega arith), refl, refl, refl)
