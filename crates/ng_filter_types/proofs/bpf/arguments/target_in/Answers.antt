-- A field that was read as a target.
use Rattle.std.proofs.Common.{◌≡◌, ℕ, true, false, List, subst}
use Rattle.ng_machine.specs.kinds.Bpf.{is_target, target_of}
use Rattle.ng_filter_types.proofs.bpf.Targets.{field_at, target_is, target_fails}
use Rattle.ng_filter_types.proofs.bpf.arguments.target_in.Goals as goal

pub returns-in-Ok : goal.returns-in-Ok
returns-in-Ok c =
    subst (λ (text : List ℕ). (is_target text ≡ true) × (c.in-Ok.target ≡ target_of text)) (field_at c.args.args.now c.args.at)
    (target_is _ c.in-Ok.target c.in-Ok.ensures)

pub returns-in-Err : goal.returns-in-Err
returns-in-Err c = subst (λ (text : List ℕ). is_target text ≡ false) (field_at c.args.args.now c.args.at) (target_fails _ c.in-Err.field-0 c.in-Err.ensures)
