use Rattle.std.proofs.Common.{Option, sym, ap, ◌∙◌, subst, arith, true}
use Rattle.ng_base.specs.declared.errno.Errno.{Errno}
use Rattle.ng_machine.specs.declared.body.Body.TheVariants.{Join3}
use Rattle.ng_machine.specs.Connect.{hook_refusal, join}
use Rattle.ng_machine.specs.Change.{Accepts, change, change_all}
use Rattle.ng_machine.specs.World.{World, NodeRecord, new_hook, node_in, with_hook}
use Rattle.ng_queue.specs.declared.pending.pending.Pending.{Pending}
use Rattle.ng_queue.specs.pending.Holds.{done_from, in_world}
use Rattle.ng_queue.specs.tally.Tally.{HasNumbers}
use Rattle.ng_topology.specs.Topology.{Topology}
use Rattle.ng_topology.proofs.NodeLemmas.{may_gets}
use Rattle.ng_core_state.specs.Stands.{Stands}
use Rattle.ng_core_state.specs.step.Changed.{with_node}
use Rattle.ng_core_state.specs.step.Steps.{world_at}
use Rattle.ng_core_state.proofs.step.ByLink.{set_there}
use Rattle.ng_core_apply.proofs.orders.Tables.{hook_answer, is_refused, no_refusal}
use Rattle.ng_core_state.proofs.step.Stepping.{err_of, node_here, numbers, ok_of, stepped}
use Rattle.ng_core_apply.proofs.orders.joining.apply_join.Goals as goal

pub finish_accepted-requires-clause-numbers : goal.finish_accepted-requires-clause-numbers
finish_accepted-requires-clause-numbers g c κs within =
    let W = c.requires.work in subst (HasNumbers 2) (sym c.widen.ensures.tally) (numbers c.args.state.now W.0 2 W.1.1.stands W.1.1.low (omega arith))

pub returns-in-Err-clause-applied : goal.returns-in-Err-clause-applied
returns-in-Err-clause-applied g c = λ a node I.
    let there = ap (λ (t : Topology). node_in t.nodes c.args.item.to) c.widen.ensures.graph ∙ node_here c.args.state.now c.args.item a node (join c.args.item node (hook_refusal node c.args.hook) c.args.hook c.args.link c.args.to.node c.args.to.hook) I in
    let refusal = is_refused c.may.result c.in-Err.errno (hook_refusal node c.args.hook) c.in-Err.is (hook_answer node c.args.hook c.may.result (c.may.ensures node there)) in
    stepped c.args.state.now c.finish_accepted.new.state c.args.item a node (join c.args.item node (hook_refusal node c.args.hook) c.args.hook c.args.link c.args.to.node c.args.to.hook) I
    (subst (λ (o : Option Errno). Stands c.finish_accepted.new.state (in_world (done_from a c.args.item) (change_all c.args.item.to c.args.item.stamp (world_at a c.args.item) (join c.args.item node o c.args.hook c.args.link c.args.to.node c.args.to.hook)))) (sym refusal)
    (c.finish_accepted.ensures a (c.widen.ensures.stands a I.stands) I.at.out))

pub add_joined-requires-clause-may : goal.add_joined-requires-clause-may
add_joined-requires-clause-may g c κs within = may_gets c.widen.new.state.graph (record { node = c.args.item.to; hook = c.args.hook }) c.may.result c.in_default.is c.may.ensures

pub returns-then-is_err-2-clause-err : goal.returns-then-is_err-2-clause-err
returns-then-is_err-2-clause-err g c = λ a S.
    subst (λ s. Stands s a) (sym (err_of c.add_joined.result (sym c.is_err-2.ensures.value ∙ c.if-is_err-2.true) c.add_joined.ensures.err)) (c.widen.ensures.stands a S)

pub finish_accepted-requires-2-clause-out : goal.finish_accepted-requires-2-clause-out
finish_accepted-requires-2-clause-out g c κs within =
    let W = c.requires.work in (
      in_world W.0 (with_node W.0.world c.args.item.to (with_hook W.1.0 (new_hook c.args.hook c.args.link c.args.to.node c.args.to.hook true))),
      ok_of c.add_joined.result (sym c.is_err-2.ensures.value ∙ c.if-is_err-2.false) c.add_joined.ensures.stands W.0 W.1.0 (c.widen.ensures.stands W.0 W.1.1.stands) W.1.1.at.here,
      W.1.1.at.out,
    )

pub finish_accepted-requires-2-clause-numbers : goal.finish_accepted-requires-2-clause-numbers
finish_accepted-requires-2-clause-numbers g c κs within =
    let W = c.requires.work in subst (λ (p : Pending). HasNumbers 2 p.tally) (sym c.add_joined.ensures.pending) (subst (HasNumbers 2) (sym c.widen.ensures.tally) (numbers c.args.state.now W.0 2 W.1.1.stands W.1.1.low (omega arith)))

pub returns-clause-applied : goal.returns-clause-applied
returns-clause-applied g c = λ a node I.
    let there = ap (λ (t : Topology). node_in t.nodes c.args.item.to) c.widen.ensures.graph ∙ node_here c.args.state.now c.args.item a node (join c.args.item node (hook_refusal node c.args.hook) c.args.hook c.args.link c.args.to.node c.args.to.hook) I in
    let free = no_refusal c.may.result (hook_refusal node c.args.hook) c.in_default.is (hook_answer node c.args.hook c.may.result (c.may.ensures node there)) in
    let now : NodeRecord = with_hook node (new_hook c.args.hook c.args.link c.args.to.node c.args.to.hook true) in
    let added = ok_of c.add_joined.result (sym c.is_err-2.ensures.value ∙ c.if-is_err-2.false) c.add_joined.ensures.stands a node (c.widen.ensures.stands a I.stands) I.at.here in
    stepped c.args.state.now c.finish_accepted-2.new.state c.args.item a node (join c.args.item node (hook_refusal node c.args.hook) c.args.hook c.args.link c.args.to.node c.args.to.hook) I
    (subst (λ (o : Option Errno). Stands c.finish_accepted-2.new.state (in_world (done_from a c.args.item) (change_all c.args.item.to c.args.item.stamp (world_at a c.args.item) (join c.args.item node o c.args.hook c.args.link c.args.to.node c.args.to.hook)))) (sym free)
    (subst (λ (w : World). Stands c.finish_accepted-2.new.state (in_world (done_from a c.args.item) (change c.args.item.to c.args.item.stamp w (Accepts c.args.to.node (Join3 c.args.to.hook c.args.link) c.args.item.tag)))) (sym (set_there (world_at a c.args.item) c.args.item.to node now I.at.here))
    (c.finish_accepted-2.ensures (in_world a (with_node a.world c.args.item.to now)) added I.at.out)))
