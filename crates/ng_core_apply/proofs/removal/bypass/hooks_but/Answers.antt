-- What is retained is what the test lets through.
use Rattle.std.proofs.Common.{◌∙◌, rules, ap}
use Rattle.std.proofs.lemmas.Fn.{filter_same}
use Rattle.ng_machine.specs.Retire.{hooks_but}
use Rattle.ng_core_apply.proofs.removal.bypass.hooks_but.Goals as goal

pub returns : goal.returns
returns g c = λ node here. filter_same _ _ _ (λ x b f' k. search rules) _ _ c.retain.ensures.filtered ∙ ap (hooks_but c.args.one.now c.args.other.now) (c.in_ok-hooks.ensures node here)
