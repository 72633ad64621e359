use Rattle.ng_core_apply.proofs.AtHands.{leave_step, within_home}
use Rattle.ng_core_apply.proofs.orders.Classed.{if_ok}
use Rattle.ng_core_apply.proofs.removing.apply_left.Goals as goal

pub apply_leave-requires-clause-work : goal.apply_leave-requires-clause-work
apply_leave-requires-clause-work g c κs within =
    let W = c.requires.work in let S = leave_step c.args.state.now c.args.item W.0 W.1.0 c.in-Leave.hook c.in-Leave.link W.1.1 c.in-Leave.is in (W.0, (W.1.0, S.0, S.1))

pub apply_leave-requires-clause-home : goal.apply_leave-requires-clause-home
apply_leave-requires-clause-home g c κs within = let W = c.requires.work in within_home c.args.state.now c.args.item W.0 W.1.0 W.1.1

pub returns-in-Leave-clause-applied : goal.returns-in-Leave-clause-applied
returns-in-Leave-clause-applied g c =
    if_ok c.apply_leave.result
    (λ out R a node W. let S = leave_step c.args.state.now c.args.item a node c.in-Leave.hook c.in-Leave.link W c.in-Leave.is in R a node S.0 S.1)
    c.apply_leave.ensures.applied
