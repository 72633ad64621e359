use Rattle.std.specs.Prelude.{refl}
use Rattle.ngctl_script.proofs.feed.examples.half_second_example.Goals as goal

pub returns : goal.returns
returns c = refl
