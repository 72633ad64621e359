-- A program that was made has no fault.
use Rattle.std.proofs.Common.{◌≡◌, ℕ, false, is_some, Option, None, Some, refl, ap}
use Rattle.ng_bpf_vm.specs.declared.validity.Fault.{Fault}
use Rattle.ng_bpf_vm.specs.Validity.{first_fault}
use Rattle.ng_filter_types.proofs.bpf.arguments.program_of.Goals as goal

no_fault : (o : Option (ℕ × Fault)) → ((at : ℕ) (why : Fault) → o ≡ Some (at, why) → ⊥) → is_some o ≡ false
no_fault None absent = refl
no_fault (Some fault) absent = absurd (absent fault.0 fault.1 refl)

pub returns-in-Ok : goal.returns-in-Ok
returns-in-Ok c =
    let none : is_some (first_fault c.args.insns.now) ≡ false = no_fault (first_fault c.args.insns.now) (λ at why e. let never = (c.in-Ok.ensures.bad at why).1 e in absurd (cc never)) in
    (none, c.in-Ok.ensures.ok, rw c.in-Ok.ensures.ok (c.in-Ok.ensures.valid.1 tt).few)

pub returns-in-Err-Bad : goal.returns-in-Err-Bad
returns-in-Err-Bad c = ap is_some ((c.in-Err-Bad.ensures.bad c.in-Err-Bad.field-0-0 c.in-Err-Bad.field-0-1).0 (cc))
