use Rattle.std.specs.Prelude.{refl}
use Rattle.ng_bpf_vm.specs.Codes.{operation_of}
use Rattle.ng_bpf_vm.specs.Effects.{effect, value_at}
use Rattle.ng_bpf_vm.specs.Machine.{outcome}
use Rattle.ng_machine_tests.proofs.type_examples.program_example.Goals as goal

pub returns : goal.returns
unfolding operation_of outcome effect value_at
returns c = (refl, refl, refl, refl)
