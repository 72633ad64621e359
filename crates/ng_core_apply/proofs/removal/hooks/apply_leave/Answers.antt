use Rattle.std.proofs.Common.{◌≡◌, ◌∙◌, ℕ, ◌+◌, ◌^◌, refl, Bool, Option, List, true, false, Some, length, is_some, sym, ap, subst, arith}
use Rattle.std.specs.Prelude.{vec_len, vec_capacity}
use Rattle.ng_queue.specs.Queues.{spare_at}
use Rattle.ng_machine.specs.Change.{Change, change_all}
use Rattle.ng_machine.specs.World.{World, NodeRecord, linked_hook, node_in, without_hook}
use Rattle.ng_machine.proofs.NodeLists.{get_here, given_number}
use Rattle.ng_queue.specs.pending.Holds.{done_from, in_world}
use Rattle.ng_queue.specs.declared.entry.Entry.{Entry}
use Rattle.ng_queue.specs.tally.Tally.{HasNumbers}
use Rattle.ng_topology.specs.Topology.{Topology, linked_hook_at}
use Rattle.ng_core_state.specs.Stands.{Stands}
use Rattle.ng_core_state.specs.step.Changed.{with_node_if}
use Rattle.ng_core_apply.specs.removal.Removals.{leaves}
use Rattle.ng_core_state.specs.step.Steps.{world_at}
use Rattle.ng_core_state.specs.step.Applied.{applied_from}
use Rattle.ng_core_state.proofs.step.ByLink.{set_there}
use Rattle.ng_core_apply.proofs.removal.Others.{leave_changes, leave_nothing}
use Rattle.ng_core_state.proofs.step.Stepping.{node_here, numbers, ok_of, stepped}
use Rattle.ng_core_apply.proofs.removal.Waiting.{box_comes, may_go, nothing_comes, waits_same}
use Rattle.ng_core_apply.proofs.removal.hooks.apply_leave.Goals as goal

pub finish-requires-clause-numbers : goal.finish-requires-clause-numbers
finish-requires-clause-numbers g c κs within = let W = c.requires.work in numbers c.args.state.now W.0 1 W.1.1.stands W.1.1.low (omega arith)

pub finish-requires-then-stays_without-clause-numbers : goal.finish-requires-then-stays_without-clause-numbers
finish-requires-then-stays_without-clause-numbers g c κs within = let W = c.requires.work in numbers c.args.state.now W.0 1 W.1.1.stands W.1.1.low (omega arith)

pub finish-requires-2-clause-numbers : goal.finish-requires-2-clause-numbers
finish-requires-2-clause-numbers g c κs within =
    let W = c.requires.work in subst (HasNumbers 1) (sym c.widen_for_drops.ensures.tally) (numbers c.args.state.now W.0 1 W.1.1.stands W.1.1.low (omega arith))

pub remove-node-requires-clause-work : goal.remove-node-requires-clause-work
remove-node-requires-clause-work g c κs within =
    let W = c.requires.work in
    let ok = sym c.is_err.ensures.value ∙ c.if-is_err.false in
    let room = ok_of c.widen_for_drops.result ok c.widen_for_drops.ensures.room in
    let told = ok_of c.widen_for_drops.result ok c.widen_for_drops.ensures.told in
    let T = c.finish-2.ensures.stands W.0 (c.widen_for_drops.ensures.stands W.0 W.1.1.stands) W.1.1.at.out in (
      done_from W.0 c.args.item,
      may_go c.args.state.now c.finish-2.new.state W.0 c.args.item (world_at W.0 c.args.item) W.1.1.stands W.1.1.at.out W.1.2 T (waits_same (world_at W.0 c.args.item) (world_at W.0 c.args.item) c.args.item.to refl) W.1.2
          (λ m lt. let r = room m lt in let e = ap (λ (l : List ℕ). spare_at l m) c.finish-2.ensures.spares in omega arith)
          (let len = ap vec_len c.finish-2.ensures.told in let cap = ap vec_capacity c.finish-2.ensures.told in omega arith)
          (c.finish-2.ensures.lists ∙ ap (λ (l : List (List Entry)). length l) c.widen_for_drops.ensures.lists)
          (c.finish-2.ensures.numbers (2 ^ 50 + 1) (subst (HasNumbers (2 ^ 50 + 1 + 1)) (sym c.widen_for_drops.ensures.tally) (numbers c.args.state.now W.0 (2 ^ 50 + 1 + 1) W.1.1.stands W.1.1.low (omega arith)))) W.1.1.low,
    )

pub returns-then-not-has_link-clause-applied : goal.returns-then-not-has_link-clause-applied
returns-then-not-has_link-clause-applied g c = λ a node I alone.
    let here = node_here c.args.state.now c.args.item a node (leaves c.args.item c.args.hook c.args.link a node) I in
    let no : is_some (linked_hook node c.args.hook c.args.link) ≡ false = sym (c.has_link.ensures ∙ ap (λ (o : Option NodeRecord). is_some (linked_hook_at o c.args.hook c.args.link)) here) ∙ c.if-not-has_link.true in
    let stands = stepped c.args.state.now c.finish.new.state c.args.item a node (leaves c.args.item c.args.hook c.args.link a node) I
    (subst (λ (cs : List Change). Stands c.finish.new.state (in_world (done_from a c.args.item) (change_all c.args.item.to c.args.item.stamp (world_at a c.args.item) cs)))
    (sym (leave_nothing (world_at a c.args.item) c.args.item node c.args.hook c.args.link no)) (c.finish.ensures.stands a I.stands I.at.out)) in
    (stands, nothing_comes g.B.Node.state c.finish.new.state (applied_from a c.args.item) c.args.item.to node node stands (ap (λ (t : Topology). node_in t.nodes c.args.item.to) c.finish.ensures.graph ∙ here))

pub returns-then-stays_without-clause-applied : goal.returns-then-stays_without-clause-applied
returns-then-stays_without-clause-applied g c = λ a node I alone.
    let here = node_here c.args.state.now c.args.item a node (leaves c.args.item c.args.hook c.args.link a node) I in
    let w = world_at a c.args.item in
    let now = without_hook node c.args.hook in
    let there : is_some (linked_hook node c.args.hook c.args.link) ≡ true = sym (c.has_link.ensures ∙ ap (λ (o : Option NodeRecord). is_some (linked_hook_at o c.args.hook c.args.link)) here) ∙ c.if-not-has_link.false in
    let stay = sym (c.stays_without.ensures node here) ∙ c.if-stays_without.true in
    let left = subst (λ (b : Bool). Stands c.leave_end.new.state (in_world (done_from a c.args.item) (with_node_if b w c.args.item.to now)))
    (c.leave_end.ensures.answer node (ap (λ (t : Topology). node_in t.nodes c.args.item.to) c.finish-then-stays_without.ensures.graph ∙ here) ∙ there)
    (c.leave_end.ensures.stands (done_from a c.args.item) node (c.finish-then-stays_without.ensures.stands a I.stands I.at.out) I.at.here) in
    let stands = stepped c.args.state.now c.leave_end.new.state c.args.item a node (leaves c.args.item c.args.hook c.args.link a node) I
    (subst (λ (cs : List Change). Stands c.leave_end.new.state (in_world (done_from a c.args.item) (change_all c.args.item.to c.args.item.stamp w cs)))
    (sym (leave_changes w c.args.item node c.args.hook c.args.link true there stay))
    (subst (λ (v : World). Stands c.leave_end.new.state (in_world (done_from a c.args.item) v)) (sym (set_there w c.args.item.to node now I.at.here)) left)) in (
      stands,
      nothing_comes g.B.Node.state c.leave_end.new.state (applied_from a c.args.item) c.args.item.to node now stands
          (ap (λ (l : List (Option NodeRecord)). node_in l c.args.item.to) left.graph.nodes ∙ get_here w.nodes c.args.item.to.0 (Some now) (given_number w.nodes c.args.item.to.0 node I.at.here)),
    )

pub returns-clause-applied : goal.returns-clause-applied
returns-clause-applied g c = λ a node I alone.
    let here = node_here c.args.state.now c.args.item a node (leaves c.args.item c.args.hook c.args.link a node) I in
    let w = world_at a c.args.item in
    let there : is_some (linked_hook node c.args.hook c.args.link) ≡ true = sym (c.has_link.ensures ∙ ap (λ (o : Option NodeRecord). is_some (linked_hook_at o c.args.hook c.args.link)) here) ∙ c.if-not-has_link.false in
    let go = sym (c.stays_without.ensures node here) ∙ c.if-stays_without.false in
    let gone = c.remove-node.ensures.stands (done_from a c.args.item) (c.finish-2.ensures.stands a (c.widen_for_drops.ensures.stands a I.stands) I.at.out) alone in
    let stands = stepped c.args.state.now c.remove-node.new.state c.args.item a node (leaves c.args.item c.args.hook c.args.link a node) I
    (subst (λ (cs : List Change). Stands c.remove-node.new.state (in_world (done_from a c.args.item) (change_all c.args.item.to c.args.item.stamp w cs)))
    (sym (leave_changes w c.args.item node c.args.hook c.args.link false there go)) gone) in (
      stands,
      box_comes g.B.Node.state c.remove-node.new.state (applied_from a c.args.item) c.args.item.to node c.remove-node.result stands c.remove-node.ensures.gone
          (c.remove-node.ensures.node node (ap (λ (t : Topology). node_in t.nodes c.args.item.to) (c.finish-2.ensures.graph ∙ c.widen_for_drops.ensures.graph) ∙ here)),
    )
