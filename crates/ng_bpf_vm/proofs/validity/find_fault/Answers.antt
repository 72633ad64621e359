use Rattle.std.proofs.Common.{sym}
use Rattle.ng_bpf_vm.proofs.Faults.{first_of_insns, none_of_end, no_return_at_end}
use Rattle.ng_bpf_vm.proofs.validity.find_fault.Goals as goal

pub returns-in-Some-insn_fault : goal.returns-in-Some-insn_fault
returns-in-Some-insn_fault c =
    sym (first_of_insns c.args.insns.now c.loop-at.at _ c.in-Some-insn_fault.fault c.loop-at-test.true c.if-insns-gt-MAX_INSNS.false c.loop-at.invariant (sym c.in-Some-insn_fault.ensures))

pub returns-then-returns_answer : goal.returns-then-returns_answer
returns-then-returns_answer c =
    sym (none_of_end c.args.insns.now c.loop-at.at c.in-Some.last.now c.if-insns-gt-MAX_INSNS.false c.loop-at-test.false c.loop-at.invariant (sym c.in-Some.ensures.value) (sym c.if-returns_answer.ensures))

pub returns-else-returns_answer : goal.returns-else-returns_answer
returns-else-returns_answer c =
    sym (no_return_at_end c.args.insns.now c.loop-at.at c.in-Some.last.now c.if-insns-gt-MAX_INSNS.false c.loop-at-test.false c.loop-at.invariant (sym c.in-Some.ensures.value) (sym c.if-returns_answer.ensures))
