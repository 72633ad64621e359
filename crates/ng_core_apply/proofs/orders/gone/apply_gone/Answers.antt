use Rattle.std.proofs.Common.{sym, subst, arith}
use Rattle.ng_machine.specs.Run.{RunState}
use Rattle.ng_core_state.proofs.step.AppliedItems.{items_are_applied}
use Rattle.ng_core_state.specs.Stands.{Stands}
use Rattle.ng_core_state.proofs.step.Stepping.{numbers}
use Rattle.ng_core_apply.proofs.orders.gone.apply_gone.Goals as goal

pub drop_for_hook-requires-clause-out : goal.drop_for_hook-requires-clause-out
drop_for_hook-requires-clause-out g c κs within = let W = c.requires.work in (W.0, W.1.1.stands, W.1.1.at.out)

pub drop_for_hook-requires-clause-numbers : goal.drop_for_hook-requires-clause-numbers
drop_for_hook-requires-clause-numbers g c κs within = let W = c.requires.work in numbers c.args.state.now W.0 1 W.1.1.stands W.1.1.low (omega arith)

pub returns : goal.returns
returns g c = λ a node I.
    subst (λ (b : RunState). Stands c.drop_for_hook.new.state b) (sym (items_are_applied.dropped a c.args.item node I.at I.gone)) (c.drop_for_hook.ensures.stands a I.stands I.at.out)
