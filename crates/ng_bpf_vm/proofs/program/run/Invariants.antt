use Rattle.std.proofs.Common.{◌-◌, length}
use Rattle.ng_bpf_vm.proofs.Runs.{Running}
use Rattle.ng_bpf_vm.proofs.program.run.Given as goal

abbrev pub invariant-loop-over : goal.invariant-loop-over
invariant-loop-over l = Running l.program l.operations l.packet l.at l.registers

abbrev pub decreases-loop-over : goal.decreases-loop-over
decreases-loop-over l = length l.operations - l.at
