use Rattle.std.proofs.Common.{take}
use Rattle.ng_bpf_vm.specs.Reading.{AreRead}
use Rattle.ng_bpf_vm.proofs.program.read_all.Given as goal

abbrev pub invariant-loop-insn : goal.invariant-loop-insn
invariant-loop-insn l = AreRead (take l.insn-index l.insns) l.operations.items
