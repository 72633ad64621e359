use Rattle.std.proofs.Common.{sym, rules}
use Rattle.ng_bpf_vm.proofs.Faults.{valid_without_faults, not_valid}
use Rattle.ng_bpf_vm.proofs.program.validate.Goals as goal

pub returns-in-Some-clause-valid : goal.returns-in-Some-clause-valid
returns-in-Some-clause-valid c =
    (λ valid. absurd (not_valid c.args.insns.now c.in-Some.at c.in-Some.why (sym c.in-Some.ensures) valid), λ e. absurd cc)

pub with_operations-requires : goal.with_operations-requires
with_operations-requires c = valid_without_faults c.args.insns.now (sym c.in-None.ensures)

pub returns-in-None-clause-valid : goal.returns-in-None-clause-valid
returns-in-None-clause-valid c =
    (λ valid. search rules, λ e. valid_without_faults c.args.insns.now (sym c.in-None.ensures))
