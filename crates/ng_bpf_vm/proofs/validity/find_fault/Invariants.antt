use Rattle.ng_bpf_vm.proofs.Faults.{NoneBefore}
use Rattle.ng_bpf_vm.proofs.validity.find_fault.Given as goal

abbrev pub invariant-loop-at : goal.invariant-loop-at
invariant-loop-at l = NoneBefore l.insns l.at
