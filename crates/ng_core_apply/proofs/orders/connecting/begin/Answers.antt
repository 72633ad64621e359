use Rattle.std.proofs.Common.{sym, ap, ◌∙◌, subst, arith, false}
use Rattle.ng_base.specs.declared.ids.LinkId.{LinkId}
use Rattle.ng_machine.specs.declared.body.Body.TheVariants.{Join2}
use Rattle.ng_machine.specs.Connect.{connect_changes}
use Rattle.ng_machine.specs.Change.{Accepts, change}
use Rattle.ng_machine.specs.World.{World, NodeRecord, link_id, new_hook, node_at, with_hook}
use Rattle.ng_queue.specs.declared.pending.pending.Pending.{Pending}
use Rattle.ng_queue.specs.pending.Holds.{done_from, in_world}
use Rattle.ng_queue.specs.tally.Tally.{HasNumbers}
use Rattle.ng_topology.specs.Topology.{Topology}
use Rattle.ng_core_state.specs.Stands.{Stands}
use Rattle.ng_core_state.specs.step.Changed.{with_link, with_node}
use Rattle.ng_core_state.specs.step.Steps.{world_at}
use Rattle.ng_core_state.proofs.step.ByLink.{set_there}
use Rattle.ng_core_apply.proofs.orders.LateLinks.{link_late}
use Rattle.ng_core_state.proofs.step.Stepping.{numbers, stepped}
use Rattle.ng_core_apply.proofs.orders.connecting.begin.Goals as goal

pub finish_accepted-requires-clause-out : goal.finish_accepted-requires-clause-out
finish_accepted-requires-clause-out g c κs within =
    let W = c.requires.work in
    let a = W.0 in let node = W.1.0 in
    (in_world a (with_link (with_node a.world c.args.item.to (with_hook node (new_hook c.args.hook.now (link_id a.world.next_link) c.args.to.now.node c.args.to.now.hook false)))), c.in-Ok.ensures.stands a node (c.widen.ensures.stands a W.1.1.stands) W.1.1.at.here, W.1.1.at.out)

pub finish_accepted-requires-clause-numbers : goal.finish_accepted-requires-clause-numbers
finish_accepted-requires-clause-numbers g c κs within =
    let W = c.requires.work in subst (λ (p : Pending). HasNumbers 2 p.tally) (sym c.in-Ok.ensures.pending) (subst (HasNumbers 2) (sym c.widen.ensures.tally) (numbers c.args.state.now W.0 2 W.1.1.stands W.1.1.low (omega arith)))

pub returns-clause-applied : goal.returns-clause-applied
returns-clause-applied g c = λ a node I.
    let wd : World = world_at a c.args.item in
    let now : NodeRecord = with_hook node (new_hook c.args.hook.now (link_id a.world.next_link) c.args.to.now.node c.args.to.now.hook false) in
    let v : World = with_node wd c.args.item.to now in
    let link = c.in-Ok.ensures.link ∙ ap link_id (ap (λ (t : Topology). t.next_link) c.widen.ensures.graph ∙ I.stands.graph.next_link) in
    let added = c.in-Ok.ensures.stands a node (c.widen.ensures.stands a I.stands) I.at.here in
    stepped c.args.state.now c.finish_accepted.new.state c.args.item a node (connect_changes wd c.args.item node c.args.to.now.node c.args.hook.now c.args.to.now.hook) I
    (subst (λ (w : World). Stands c.finish_accepted.new.state (in_world (done_from a c.args.item) (with_link (change c.args.item.to c.args.item.stamp w (Accepts c.args.to.now.node (Join2 c.args.to.now.hook (link_id a.world.next_link) c.args.item.to c.args.hook.now) c.args.item.tag)))))
    (sym (set_there wd c.args.item.to node now I.at.here))
    (subst (λ (w : World). Stands c.finish_accepted.new.state (in_world (done_from a c.args.item) w))
    (link_late v c.args.to.now.node (node_at v c.args.to.now.node) (Join2 c.args.to.now.hook (link_id a.world.next_link) c.args.item.to c.args.hook.now) c.args.item.tag c.args.item.stamp)
    (subst (λ (l : LinkId). Stands c.finish_accepted.new.state (in_world (done_from a c.args.item) (change c.args.item.to c.args.item.stamp (with_link v) (Accepts c.args.to.now.node (Join2 c.args.to.now.hook l c.args.item.to c.args.hook.now) c.args.item.tag)))) link
    (c.finish_accepted.ensures (in_world a (with_link (with_node a.world c.args.item.to now))) added I.at.out))))
