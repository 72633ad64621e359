use Rattle.std.proofs.Common.{◌≡◌, ◌++◌, take, flat_map}
use Rattle.ng_machine.specs.kinds.Bpf.{insn_bytes}
use Rattle.ng_filter_types.proofs.bpf.filter.put_insns.Given as goal

abbrev pub invariant-loop-insn : goal.invariant-loop-insn
invariant-loop-insn l = l.out.items ≡ l.initial.out.items ++ flat_map insn_bytes (take l.insn-index l.insns)
