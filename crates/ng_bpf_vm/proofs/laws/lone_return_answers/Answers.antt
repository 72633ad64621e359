use Rattle.ng_bpf_vm.proofs.Ends.{lone_return_valid, lone_return_outcome}
use Rattle.ng_bpf_vm.proofs.laws.lone_return_answers.Goals as goal

pub returns-clause-valid : goal.returns-clause-valid
returns-clause-valid c = lone_return_valid

pub returns-clause-answer : goal.returns-clause-answer
returns-clause-answer c = lone_return_outcome
