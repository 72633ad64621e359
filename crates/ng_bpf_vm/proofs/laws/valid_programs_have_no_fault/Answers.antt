use Rattle.std.proofs.Common.{ap}
use Rattle.std.specs.Prelude.{slice_get}
use Rattle.ng_bpf_vm.proofs.Faults.{no_faults_if_valid, valid_without_faults}
use Rattle.ng_bpf_vm.proofs.laws.valid_programs_have_no_fault.Goals as goal

pub returns : goal.returns
returns c program =
    (no_faults_if_valid program, λ none. valid_without_faults program (ap (λ xs. slice_get xs 0) none))
