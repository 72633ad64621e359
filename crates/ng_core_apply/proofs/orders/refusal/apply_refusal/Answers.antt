use Rattle.std.proofs.Common.{subst, sym, arith}
use Rattle.ng_machine.specs.Retire.{refuse}
use Rattle.ng_queue.specs.declared.pending.pending.Pending.{Pending}
use Rattle.ng_queue.specs.tally.Tally.{HasNumbers}
use Rattle.ng_core_state.proofs.step.Stepping.{numbers, stepped}
use Rattle.ng_core_apply.proofs.orders.refusal.apply_refusal.Goals as goal

pub finish_refused-requires-clause-numbers : goal.finish_refused-requires-clause-numbers
finish_refused-requires-clause-numbers g c κs within =
    let W = c.requires.work in
    subst (λ (p : Pending). HasNumbers 1 p.tally) (sym c.widen_told.ensures.pending) (numbers c.args.state.now W.0 1 W.1.1.stands W.1.1.low (omega arith))

pub returns-clause-applied : goal.returns-clause-applied
returns-clause-applied g c = λ a node I.
    stepped c.args.state.now c.finish_refused.new.state c.args.item a node (refuse c.args.item.tag c.args.errno) I
    (c.finish_refused.ensures a (c.widen_told.ensures.stands a I.stands) I.at.out)
