use Rattle.std.proofs.Common.{[], arith}
use Rattle.ng_core_state.proofs.step.Stepping.{numbers, stepped}
use Rattle.ng_core_apply.proofs.orders.gone.apply_nothing.Goals as goal

pub finish-requires-clause-numbers : goal.finish-requires-clause-numbers
finish-requires-clause-numbers g c κs within = let W = c.requires.work in numbers c.args.state.now W.0 1 W.1.1.stands W.1.1.low (omega arith)

pub returns : goal.returns
returns g c = λ a node I. stepped c.args.state.now c.finish.new.state c.args.item a node [] I (c.finish.ensures.stands a I.stands I.at.out)
