use Rattle.std.proofs.Common.{sym, ap}
use Rattle.std.specs.Prelude.{unwrap_or}
use Rattle.ng_bpf_vm.proofs.Runs.{running_first, running_word, running_over, running_answer}
use Rattle.ng_bpf_vm.proofs.program.run.Goals as goal

pub loop-over-init : goal.loop-over-init
loop-over-init c =
    rw (c.new-registers.ensures, c.as_slice-operations.ensures.value, c.deref.ensures, ← c.program.view_is)
    (running_first _ _ _ c.program.invariant.0 c.program.invariant.1)

pub step-requires : goal.step-requires
step-requires c = running_word _ _ _ c.loop-over.at c.loop-over.registers _ c.loop-over.invariant

pub loop-over-preserved : goal.loop-over-preserved
loop-over-preserved c =
    running_over _ _ _ c.loop-over.at c.loop-over.registers _ c.in-Over.over _ c.loop-over.invariant c.in-Over.ensures

pub returns-in-Answer-clause-answers : goal.returns-in-Answer-clause-answers
returns-in-Answer-clause-answers c =
    running_answer _ _ _ c.loop-over.at c.loop-over.registers _ c.in-Answer.answer c.loop-over.invariant c.in-Answer.ensures

pub returns-in-Answer-clause-value : goal.returns-in-Answer-clause-value
returns-in-Answer-clause-value c =
    sym (ap (λ o. unwrap_or o 0) (running_answer _ _ _ c.loop-over.at c.loop-over.registers _ c.in-Answer.answer c.loop-over.invariant c.in-Answer.ensures))
