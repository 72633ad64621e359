use Rattle.std.proofs.Common.{[], refl, ap, ◌∙◌, subst, arith}
use Rattle.ng_machine.specs.Connect.{settle}
use Rattle.ng_machine.specs.World.{World, linked_hook, node_in, settle_hook, with_changed_hook}
use Rattle.ng_queue.specs.pending.Holds.{done_from, in_world}
use Rattle.ng_topology.specs.Topology.{Topology}
use Rattle.ng_core_state.specs.Stands.{Stands}
use Rattle.ng_core_state.specs.step.Steps.{world_at}
use Rattle.ng_core_state.proofs.step.ByLink.{by_link}
use Rattle.ng_core_state.proofs.step.Stepping.{node_here, numbers, stepped}
use Rattle.ng_core_apply.proofs.orders.joining.apply_settle.Goals as goal

pub finish-requires-clause-numbers : goal.finish-requires-clause-numbers
finish-requires-clause-numbers g c κs within = let W = c.requires.work in numbers c.args.state.now W.0 1 W.1.1.stands W.1.1.low (omega arith)

pub returns : goal.returns
returns g c = λ a node I.
    let there = ap (λ (t : Topology). node_in t.nodes c.args.item.to) c.finish.ensures.graph ∙ node_here c.args.state.now c.args.item a node (settle node (linked_hook node c.args.hook c.args.link)) I in
    stepped c.args.state.now c.settle_end.new.state c.args.item a node (settle node (linked_hook node c.args.hook c.args.link)) I
    (subst (λ (w : World). Stands c.settle_end.new.state (in_world (done_from a c.args.item) w))
    (by_link (world_at a c.args.item) c.args.item.to c.args.item.stamp node c.args.hook c.args.link (λ n. with_changed_hook node n settle_hook) (settle node) [] c.settle_end.result I.at.here (c.settle_end.ensures.answer node there) refl (λ h. refl))
    (c.settle_end.ensures.stands (done_from a c.args.item) node (c.finish.ensures.stands a I.stands I.at.out) I.at.here))
