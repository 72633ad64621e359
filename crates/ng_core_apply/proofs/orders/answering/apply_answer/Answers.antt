use Rattle.std.proofs.Common.{subst, sym, arith}
use Rattle.ng_queue.specs.declared.pending.pending.Pending.{Pending}
use Rattle.ng_queue.specs.pending.Holds.{done_from}
use Rattle.ng_queue.specs.tally.Tally.{HasNumbers}
use Rattle.ng_core_apply.specs.orders.Asked.{told_by}
use Rattle.ng_core_state.proofs.step.Stepping.{numbers, stepped}
use Rattle.ng_core_apply.proofs.orders.answering.apply_answer.Goals as goal

pub finish-requires-clause-numbers : goal.finish-requires-clause-numbers
finish-requires-clause-numbers g c κs within =
    let W = c.requires.work in subst (λ (p : Pending). HasNumbers 1 p.tally) (sym c.widen_told.ensures.pending) (numbers c.args.state.now W.0 1 W.1.1.stands W.1.1.low (omega arith))

pub returns-clause-applied : goal.returns-clause-applied
returns-clause-applied g c = λ a node I.
    stepped c.args.state.now c.tell_answer.new.state c.args.item a node (told_by c.args.item.tag c.args.item.body) I
    (c.tell_answer.ensures (done_from a c.args.item) c.args.item.to c.args.item.stamp (c.finish.ensures.stands a (c.widen_told.ensures.stands a I.stands) I.at.out))
