use Rattle.std.specs.Prelude.{refl}
use Rattle.ng_machine_tests.proofs.type_examples.sizes_example.Goals as goal

pub returns : goal.returns
returns c = (refl, refl)
