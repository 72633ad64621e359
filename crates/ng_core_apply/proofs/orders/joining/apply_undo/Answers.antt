use Rattle.std.proofs.Common.{Bool, Option, cond, refl, sym, ap, ◌∙◌, subst, arith}
use Rattle.ng_machine.specs.declared.hook.Hook.{Hook}
use Rattle.ng_machine.specs.Connect.{undo}
use Rattle.ng_machine.specs.Retire.{refuse}
use Rattle.ng_machine.specs.World.{World, linked_hook, node_in, without_hook}
use Rattle.ng_queue.specs.declared.pending.pending.Pending.{Pending}
use Rattle.ng_queue.specs.pending.Holds.{done_from, in_world}
use Rattle.ng_queue.specs.tally.Tally.{HasNumbers}
use Rattle.ng_topology.specs.Topology.{Topology}
use Rattle.ng_core_state.specs.Stands.{Stands}
use Rattle.ng_core_state.specs.step.Changed.{with_node}
use Rattle.ng_core_state.specs.step.Steps.{world_at}
use Rattle.ng_core_state.proofs.step.ByLink.{by_a_link, by_no_link}
use Rattle.ng_core_state.proofs.step.Stepping.{node_here, numbers, stepped}
use Rattle.ng_core_apply.proofs.orders.joining.apply_undo.Goals as goal

pub finish-requires-clause-numbers : goal.finish-requires-clause-numbers
finish-requires-clause-numbers g c κs within =
    let W = c.requires.work in
    subst (λ (p : Pending). HasNumbers 1 p.tally) (sym c.widen_told.ensures.pending) (numbers c.args.state.now W.0 1 W.1.1.stands W.1.1.low (omega arith))

pub returns-then-not-leave_end-clause-applied : goal.returns-then-not-leave_end-clause-applied
returns-then-not-leave_end-clause-applied g c = λ a node I.
    let there = ap (λ (t : Topology). node_in t.nodes c.args.item.to) (c.finish.ensures.graph ∙ c.widen_told.ensures.graph) ∙ node_here c.args.state.now c.args.item a node (undo c.args.item node (linked_hook node c.args.hook c.args.link) c.args.errno) I in
    stepped c.args.state.now c.leave_end.new.state c.args.item a node (undo c.args.item node (linked_hook node c.args.hook c.args.link) c.args.errno) I
    (by_no_link (λ (w : World). Stands c.leave_end.new.state (in_world (done_from a c.args.item) w)) (world_at a c.args.item) c.args.item.to c.args.item.stamp node c.args.hook c.args.link (λ n. without_hook node n) (λ (o : Option Hook). undo c.args.item node o c.args.errno) (refuse c.args.item.tag c.args.errno)
    c.leave_end.result I.at.here (c.leave_end.ensures.answer node there) refl (λ h. refl) c.if-not-leave_end.true
    (c.leave_end.ensures.stands (done_from a c.args.item) node (c.finish.ensures.stands a (c.widen_told.ensures.stands a I.stands) I.at.out) I.at.here))

pub returns-clause-applied : goal.returns-clause-applied
returns-clause-applied g c = λ a node I.
    let there = ap (λ (t : Topology). node_in t.nodes c.args.item.to) (c.finish.ensures.graph ∙ c.widen_told.ensures.graph) ∙ node_here c.args.state.now c.args.item a node (undo c.args.item node (linked_hook node c.args.hook c.args.link) c.args.errno) I in
    let left = c.leave_end.ensures.stands (done_from a c.args.item) node (c.finish.ensures.stands a (c.widen_told.ensures.stands a I.stands) I.at.out) I.at.here in
    let gone = subst (λ (b : Bool). Stands c.leave_end.new.state (in_world (done_from a c.args.item) (cond b (with_node (world_at a c.args.item) c.args.item.to (without_hook node c.args.hook)) (world_at a c.args.item)))) c.if-not-leave_end.false left in
    stepped c.args.state.now c.refuse.new.state c.args.item a node (undo c.args.item node (linked_hook node c.args.hook c.args.link) c.args.errno) I
    (by_a_link (λ (w : World). Stands c.refuse.new.state (in_world (done_from a c.args.item) w)) (world_at a c.args.item) c.args.item.to c.args.item.stamp node c.args.hook c.args.link (λ n. without_hook node n) (λ (o : Option Hook). undo c.args.item node o c.args.errno) (refuse c.args.item.tag c.args.errno)
    c.leave_end.result I.at.here (c.leave_end.ensures.answer node there) refl (λ h. refl) c.if-not-leave_end.false
    (c.refuse.ensures.stands (in_world (done_from a c.args.item) (with_node (world_at a c.args.item) c.args.item.to (without_hook node c.args.hook))) c.args.item.to c.args.item.stamp gone))
