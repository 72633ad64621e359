-- A configuration that is taken, and one that is refused.
use Rattle.std.proofs.Common.{Bool, if◌then◌else◌, sym, ap, ◌∙◌}
use Rattle.ng_machine.specs.kinds.One2many.{One2many, with_config}
use Rattle.ng_machine.specs.Outcome.{Reply, invalid, sets}
use Rattle.ng_switch_types.proofs.one2many.messages.allow_config.Goals as goal

pub returns-then-is_config : goal.returns-then-is_config
returns-then-is_config c = λ s.
    c.nothing.ensures ∙ sym (ap (λ (reply : Reply One2many). reply.outcome) (c.is_config.ensures.taken s ∙ ap (λ (b : Bool). if b then sets (with_config s c.args.args.now) else invalid s) c.if-is_config.true))

pub returns-else-is_config : goal.returns-else-is_config
returns-else-is_config c = λ s.
    c.fails.ensures ∙ sym (ap (λ (reply : Reply One2many). reply.outcome) (c.is_config.ensures.taken s ∙ ap (λ (b : Bool). if b then sets (with_config s c.args.args.now) else invalid s) c.if-is_config.false))
