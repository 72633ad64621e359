use Rattle.std.proofs.Common.{sym, ◌∙◌, subst, arith, true, None}
use Rattle.ng_machine.specs.Change.{Makes, change}
use Rattle.ng_machine.specs.Generic.{makes}
use Rattle.ng_machine.specs.World.{World, NodeRecord, blank_node, link_id, new_hook, next_node, with_hook}
use Rattle.ng_queue.specs.declared.pending.pending.Pending.{Pending}
use Rattle.ng_queue.specs.pending.Holds.{done_from, in_world}
use Rattle.ng_queue.specs.tally.Tally.{HasNumbers}
use Rattle.ng_core_state.specs.Stands.{Stands}
use Rattle.ng_core_state.specs.step.Changed.{with_link, with_sprout}
use Rattle.ng_core_state.specs.step.Steps.{world_at}
use Rattle.ng_core_state.proofs.step.ByLink.{set_there}
use Rattle.ng_core_state.proofs.step.Stepping.{numbers, ok_of, stepped}
use Rattle.ng_core_apply.proofs.orders.making.make.Goals as goal

pub finish-requires-clause-out : goal.finish-requires-clause-out
finish-requires-clause-out g c κs within =
    let W = c.requires.work in (
      in_world W.0 (with_sprout W.0.world (record { node = c.args.item.to; hook = c.args.ours.now }) W.1.0 c.args.kind c.args.theirs.now),
      ok_of c.sprout.result (sym c.is_err.ensures.value ∙ c.if-is_err.false) c.sprout.ensures.stands W.0 W.1.0 W.1.1.stands W.1.1.at.here,
      W.1.1.at.out,
    )

pub finish-requires-clause-numbers : goal.finish-requires-clause-numbers
finish-requires-clause-numbers g c κs within =
    let W = c.requires.work in subst (λ (p : Pending). HasNumbers 1 p.tally) (sym c.sprout.ensures.pending) (numbers c.args.state.now W.0 1 W.1.1.stands W.1.1.low (omega arith))

pub returns-clause-applied : goal.returns-clause-applied
returns-clause-applied g c = λ a node I.
    let wd : World = world_at a c.args.item in
    let now : NodeRecord = with_hook node (new_hook c.args.ours.now (link_id a.world.next_link) (next_node a.world) c.args.theirs.now true) in
    let made : NodeRecord = with_hook (blank_node None c.args.kind) (new_hook c.args.theirs.now (link_id a.world.next_link) c.args.item.to c.args.ours.now true) in
    let grown = ok_of c.sprout.result (sym c.is_err.ensures.value ∙ c.if-is_err.false) c.sprout.ensures.stands a node I.stands I.at.here in
    stepped c.args.state.now c.finish.new.state c.args.item a node (makes wd c.args.item node c.args.kind c.args.ours.now c.args.theirs.now) I
    (subst (λ (w : World). Stands c.finish.new.state (in_world (done_from a c.args.item) (with_link (change c.args.item.to c.args.item.stamp w (Makes c.args.kind made)))))
    (sym (set_there wd c.args.item.to node now I.at.here))
    (c.finish.ensures.stands (in_world a (with_sprout a.world (record { node = c.args.item.to; hook = c.args.ours.now }) node c.args.kind c.args.theirs.now)) grown I.at.out))
