use Rattle.std.proofs.Common.{[], ◌∷◌, Some, sym, ◌∙◌, subst, arith}
use Rattle.ng_machine.specs.Change.{Sets}
use Rattle.ng_machine.specs.World.{World, NodeRecord}
use Rattle.ng_queue.specs.declared.pending.pending.Pending.{Pending}
use Rattle.ng_queue.specs.pending.Holds.{done_from, in_world}
use Rattle.ng_queue.specs.tally.Tally.{HasNumbers}
use Rattle.ng_core_state.specs.Stands.{Stands}
use Rattle.ng_core_state.specs.step.Changed.{with_node}
use Rattle.ng_core_state.specs.step.Steps.{world_at}
use Rattle.ng_core_state.proofs.step.ByLink.{set_there}
use Rattle.ng_core_state.proofs.step.Stepping.{err_of, numbers, ok_of, stepped}
use Rattle.ng_core_apply.proofs.orders.making.rename.Goals as goal

pub returns-then-is_err-clause-err : goal.returns-then-is_err-clause-err
returns-then-is_err-clause-err g c = λ a S. subst (λ s. Stands s a) (sym (err_of c.give_name.result (sym c.is_err.ensures.value ∙ c.if-is_err.true) c.give_name.ensures.err)) S

pub finish-requires-clause-out : goal.finish-requires-clause-out
finish-requires-clause-out g c κs within =
    let W = c.requires.work in
    let node : NodeRecord = W.1.0 in (
      in_world W.0 (with_node W.0.world c.args.item.to (record node { name = Some c.args.name })),
      ok_of c.give_name.result (sym c.is_err.ensures.value ∙ c.if-is_err.false) c.give_name.ensures.stands W.0 W.1.0 W.1.1.stands W.1.1.at.here,
      W.1.1.at.out,
    )

pub finish-requires-clause-numbers : goal.finish-requires-clause-numbers
finish-requires-clause-numbers g c κs within =
    let W = c.requires.work in subst (λ (p : Pending). HasNumbers 1 p.tally) (sym c.give_name.ensures.pending) (numbers c.args.state.now W.0 1 W.1.1.stands W.1.1.low (omega arith))

pub returns-clause-applied : goal.returns-clause-applied
returns-clause-applied g c = λ a node I.
    let now : NodeRecord = record node { name = Some c.args.name } in
    let named = ok_of c.give_name.result (sym c.is_err.ensures.value ∙ c.if-is_err.false) c.give_name.ensures.stands a node I.stands I.at.here in
    stepped c.args.state.now c.finish.new.state c.args.item a node (Sets now ∷ []) I
    (subst (λ (w : World). Stands c.finish.new.state (in_world (done_from a c.args.item) w)) (sym (set_there (world_at a c.args.item) c.args.item.to node now I.at.here))
    (c.finish.ensures.stands (in_world a (with_node a.world c.args.item.to now)) named I.at.out))
