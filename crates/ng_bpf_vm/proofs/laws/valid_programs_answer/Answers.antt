use Rattle.ng_bpf_vm.proofs.Ends.{valid_ends}
use Rattle.ng_bpf_vm.proofs.laws.valid_programs_answer.Goals as goal

pub returns : goal.returns
returns c = valid_ends
