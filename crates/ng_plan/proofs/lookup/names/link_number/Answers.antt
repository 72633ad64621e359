-- The number whose hook the name is; or none of them is.
use Rattle.std.proofs.Common.{arith, sym, ◌∙◌, below_more}
use Rattle.ng_plan.proofs.lookup.Numbered.{link_found, link_missing}
use Rattle.ng_plan.proofs.lookup.names.link_number.Goals as goal

pub loop-number-preserved : goal.loop-number-preserved
loop-number-preserved c =
    below_more _ _ c.loop-number.invariant (sym c.is_link-in-loop-number.ensures ∙ c.if-is_link-2.false)

pub returns-clause-number : goal.returns-clause-number
returns-clause-number c = link_missing c.args.hook.now (λ k less. c.loop-number.invariant k (omega arith))

pub returns-then-is_link-clause-number : goal.returns-then-is_link-clause-number
returns-then-is_link-clause-number c =
    link_found c.args.hook.now c.guess_number-guess.result (omega arith) (sym c.is_link.ensures ∙ c.if-is_link.true)

pub returns-then-is_link-2-clause-number : goal.returns-then-is_link-2-clause-number
returns-then-is_link-2-clause-number c =
    link_found c.args.hook.now c.loop-number.number (omega arith) (sym c.is_link-in-loop-number.ensures ∙ c.if-is_link-2.true)
