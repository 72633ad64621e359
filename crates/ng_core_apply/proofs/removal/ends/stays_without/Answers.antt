use Rattle.std.proofs.Common.{◌∙◌, List, sym, ap}
use Rattle.ng_machine.specs.declared.hook.Hook.{Hook}
use Rattle.ng_machine.specs.Retire.{has_hooks}
use Rattle.ng_machine.specs.Rules.{is_lasting}
use Rattle.ng_machine.specs.State.{State}
use Rattle.ng_core_apply.proofs.removal.Others.{others, stays_else}
use Rattle.ng_core_apply.proofs.removal.ends.stays_without.Goals as goal

pub returns-else-has_other : goal.returns-else-has_other
returns-else-has_other g c = λ node here. stays_else node c.args.hook.now c.lasting.result
    (sym (c.has_other.ensures ∙ ap (λ (l : List Hook). has_hooks (others c.args.hook.now l)) (c.hooks.ensures node here)) ∙ c.if-has_other.false)
    (c.lasting.ensures ∙ ap (λ (s : State). is_lasting s.kept) (c.node.ensures node here))
