-- The hook of a number below 64; or of none.
use Rattle.std.proofs.Common.{sym, ap, ◌∙◌, arith, below_more}
use Rattle.std.specs.Str.{bytes_eq}
use Rattle.ng_switch_types.proofs.one2many.HookNames.{takes_many, takes_none}
use Rattle.ng_switch_types.proofs.one2many.node.is_of_type.Goals as goal

pub loop-link-preserved : goal.loop-link-preserved
loop-link-preserved c =
    let other = sym (ap (λ name. bytes_eq name c.args.hook.now) c.many.ensures) ∙ sym c.eq-in-loop-link.ensures ∙ c.if-eq-2.false in
    below_more _ _ c.loop-link.invariant other

pub returns-then-eq-2 : goal.returns-then-eq-2
returns-then-eq-2 c =
    sym (takes_many c.args.hook.now c.loop-link.link (omega arith) (sym (ap (λ name. bytes_eq name c.args.hook.now) c.many.ensures) ∙ sym c.eq-in-loop-link.ensures ∙ c.if-eq-2.true))

pub returns : goal.returns
returns c =
    sym (takes_none c.args.hook.now (sym (ap (bytes_eq c.args.hook.now) c.one.ensures) ∙ sym c.eq.ensures ∙ c.if-eq.false) (λ k less. c.loop-link.invariant k (omega arith)))
