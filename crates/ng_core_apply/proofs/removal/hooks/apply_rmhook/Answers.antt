use Rattle.std.proofs.Common.{◌∙◌, ◌+◌, ◌<◌, ◌^◌, Bool, Option, List, true, false, None, Some, length, sym, ap, subst, arith}
use Rattle.std.specs.Prelude.{vec_len, vec_capacity}
use Rattle.ng_machine.specs.declared.body.Body.TheVariants.{Leave}
use Rattle.ng_machine.specs.declared.hook.Hook.{Hook}
use Rattle.ng_machine.specs.Change.{Change, change_all, retire}
use Rattle.ng_machine.specs.Connect.{rmhook}
use Rattle.ng_machine.specs.World.{World, NodeRecord, hook_at, node_in, without_hook}
use Rattle.ng_machine.proofs.NodeLists.{get_here, given_number}
use Rattle.ng_queue.specs.declared.pending.pending.Pending.{Pending}
use Rattle.ng_queue.specs.pending.Holds.{done_from, in_world}
use Rattle.ng_queue.specs.declared.entry.Entry.{Entry}
use Rattle.ng_queue.specs.Queue.{waiting_items}
use Rattle.ng_queue.specs.Queues.{list_at, spare_at}
use Rattle.ng_queue.specs.tally.Tally.{HasNumbers}
use Rattle.ng_topology.specs.Topology.{Topology}
use Rattle.ng_core_state.specs.Stands.{Stands}
use Rattle.ng_core_state.specs.step.Changed.{with_node_if}
use Rattle.ng_core_state.specs.step.Steps.{world_at}
use Rattle.ng_core_apply.specs.removal.Drops.{undoes}
use Rattle.ng_core_apply.specs.removal.Removals.{removes_hook, world_asked}
use Rattle.ng_core_state.specs.step.Applied.{applied_from}
use Rattle.ng_core_state.proofs.step.ByLink.{set_there}
use Rattle.ng_core_apply.proofs.removal.Others.{has_own_link, rmhook_changes}
use Rattle.ng_core_state.proofs.step.Stepping.{node_here, numbers, ok_of, stepped}
use Rattle.ng_core_apply.proofs.removal.Waiting.{alone_accepted, box_comes, may_go, nodes_accepted, nothing_comes, old_beside, room_left, same_follows, waits_leave}
use Rattle.ng_core_apply.proofs.removal.hooks.apply_rmhook.Goals as goal

pub finish-requires-clause-numbers : goal.finish-requires-clause-numbers
finish-requires-clause-numbers g c κs within =
    let W = c.requires.work in subst (λ (p : Pending). HasNumbers 1 p.tally) (sym c.widen_told.ensures.pending) (numbers c.args.state.now W.0 1 W.1.1.stands W.1.1.low (omega arith))

pub ask_peer-requires-clause-numbers : goal.ask_peer-requires-clause-numbers
ask_peer-requires-clause-numbers g c κs within =
    let W = c.requires.work in subst (HasNumbers 2) (sym c.widen.ensures.tally) (numbers c.args.state.now W.0 2 W.1.1.stands W.1.1.low (omega arith))

pub ask_peer-requires-2-clause-numbers : goal.ask_peer-requires-2-clause-numbers
ask_peer-requires-2-clause-numbers g c κs within =
    let W = c.requires.work in subst (HasNumbers 2) (sym (c.widen_for_drops.ensures.tally ∙ c.widen.ensures.tally)) (numbers c.args.state.now W.0 2 W.1.1.stands W.1.1.low (omega arith))

pub returns-in_default-clause-applied : goal.returns-in_default-clause-applied
returns-in_default-clause-applied g c = λ a node I alone.
    let here = node_here c.args.state.now c.args.item a node (removes_hook c.args.item c.args.hook a node) I in
    let none = sym (c.hook_of.ensures ∙ ap (λ (o : Option NodeRecord). hook_at o c.args.hook) here) ∙ c.in_default.is in
    let done = c.finish.ensures.stands a (c.widen_told.ensures.stands a I.stands) I.at.out in
    let stands = stepped c.args.state.now c.refuse.new.state c.args.item a node (removes_hook c.args.item c.args.hook a node) I
    (subst (λ (o : Option Hook). Stands c.refuse.new.state (in_world (done_from a c.args.item) (change_all c.args.item.to c.args.item.stamp (world_at a c.args.item) (rmhook (world_at a c.args.item) c.args.item node o))))
    (sym none) (c.refuse.ensures.stands (done_from a c.args.item) c.args.item.to c.args.item.stamp done)) in (
      stands,
      nothing_comes g.B.Node.state c.refuse.new.state (applied_from a c.args.item) c.args.item.to node node stands
          (ap (λ (t : Topology). node_in t.nodes c.args.item.to) (c.refuse.ensures.graph ∙ c.finish.ensures.graph ∙ c.widen_told.ensures.graph) ∙ here),
    )

pub returns-then-stays_without-clause-applied : goal.returns-then-stays_without-clause-applied
returns-then-stays_without-clause-applied g c = λ a node I alone.
    let here = node_here c.args.state.now c.args.item a node (removes_hook c.args.item c.args.hook a node) I in
    let w = world_at a c.args.item in
    let v = world_asked a c.args.item c.in-Some.end in
    let now = without_hook node c.args.hook in
    let end = sym (c.hook_of.ensures ∙ ap (λ (o : Option NodeRecord). hook_at o c.args.hook) here) ∙ c.in-Some.is in
    let stay = sym (c.stays_without.ensures node (ap (λ (t : Topology). node_in t.nodes c.args.item.to) c.widen.ensures.graph ∙ here)) ∙ c.if-stays_without.true in
    let there = ap (λ (l : List (Option NodeRecord)). node_in l c.args.item.to) (nodes_accepted w c.args.item.to c.in-Some.end.peer.node c.args.item.stamp (Leave c.in-Some.end.peer.hook c.in-Some.end.link) None) ∙ I.at.here in
    let left = subst (λ (b : Bool). Stands c.leave_end.new.state (in_world (done_from a c.args.item) (with_node_if b v c.args.item.to now)))
    (c.leave_end.ensures.answer node (ap (λ (t : Topology). node_in t.nodes c.args.item.to) (c.ask_peer.ensures.graph ∙ c.widen.ensures.graph) ∙ here) ∙ has_own_link node c.args.hook c.in-Some.end end)
    (c.leave_end.ensures.stands (in_world (done_from a c.args.item) v) node (c.ask_peer.ensures.stands a (c.widen.ensures.stands a I.stands) I.at.out) there) in
    let stands = stepped c.args.state.now c.leave_end.new.state c.args.item a node (removes_hook c.args.item c.args.hook a node) I
    (subst (λ (cs : List Change). Stands c.leave_end.new.state (in_world (done_from a c.args.item) (change_all c.args.item.to c.args.item.stamp w cs)))
    (sym (rmhook_changes w c.args.item node c.args.hook c.in-Some.end true end stay))
    (subst (λ (u : World). Stands c.leave_end.new.state (in_world (done_from a c.args.item) u)) (sym (set_there v c.args.item.to node now there)) left)) in (
      stands,
      nothing_comes g.B.Node.state c.leave_end.new.state (applied_from a c.args.item) c.args.item.to node now stands
          (ap (λ (l : List (Option NodeRecord)). node_in l c.args.item.to) left.graph.nodes ∙ get_here v.nodes c.args.item.to.0 (Some now) (given_number v.nodes c.args.item.to.0 node there)),
    )

pub remove-node-requires-clause-work : goal.remove-node-requires-clause-work
remove-node-requires-clause-work g c κs within =
    let W = c.requires.work in
    let w = world_at W.0 c.args.item in
    let v = world_asked W.0 c.args.item c.in-Some.end in
    let lists = ap (λ (l : List (List Entry)). length l) c.widen.ensures.lists in
    let wide = ok_of c.widen.result (sym c.is_err-2.ensures.value ∙ c.if-is_err-2.false) c.widen.ensures.room in
    let ok = sym c.is_err-3.ensures.value ∙ c.if-is_err-3.false in
    let room = ok_of c.widen_for_drops.result ok c.widen_for_drops.ensures.room in
    let told = ok_of c.widen_for_drops.result ok c.widen_for_drops.ensures.told in
    let more = waits_leave w c.args.item.to c.args.item.to c.in-Some.end.peer.node c.args.item.stamp c.in-Some.end.peer.hook c.in-Some.end.link in
    let T = c.ask_peer-2.ensures.stands W.0 (c.widen_for_drops.ensures.stands W.0 (c.widen.ensures.stands W.0 W.1.1.stands)) W.1.1.at.out in (
      in_world (done_from W.0 c.args.item) v,
      may_go c.args.state.now c.ask_peer-2.new.state W.0 c.args.item v W.1.1.stands W.1.1.at.out W.1.2 T more
          (alone_accepted (done_from W.0 c.args.item) c.args.item.to.0 c.args.item.to c.in-Some.end.peer.node c.args.item.stamp (Leave c.in-Some.end.peer.hook c.in-Some.end.link) None
          (old_beside c.args.state.now W.0 c.args.item W.1.1.stands) W.1.2)
          (λ m lt. room_left m c.in-Some.end.peer.node.0 (spare_at c.widen.new.state.pending.queues.spares m) (spare_at c.widen_for_drops.new.state.pending.queues.spares m) (spare_at c.ask_peer-2.new.state.pending.queues.spares m)
          (undoes (waiting_items (list_at c.args.state.now.pending.queues.lists c.args.item.to.0)) m)
          (λ e. let lt2 : c.in-Some.end.peer.node.0 < length c.args.state.now.pending.queues.lists = omega arith in
          let le = wide lt2 in let f = ap (spare_at c.widen.new.state.pending.queues.spares) e in omega arith)
          (let r = room m (omega arith) in let f = ap (λ (l : List (List Entry)). undoes (waiting_items (list_at l c.args.item.to.0)) m) c.widen.ensures.lists in omega arith)
          (c.ask_peer-2.ensures.spares m))
          (let len = ap vec_len c.ask_peer-2.ensures.told in let cap = ap vec_capacity c.ask_peer-2.ensures.told in
          let f = ap (λ (l : List (List Entry)). length (waiting_items (list_at l c.args.item.to.0))) c.widen.ensures.lists in omega arith)
          (c.ask_peer-2.ensures.lists ∙ ap (λ (l : List (List Entry)). length l) c.widen_for_drops.ensures.lists ∙ lists)
          (c.ask_peer-2.ensures.numbers (2 ^ 50 + 1) (subst (HasNumbers (2 ^ 50 + 1 + 2)) (sym (c.widen_for_drops.ensures.tally ∙ c.widen.ensures.tally)) (numbers c.args.state.now W.0 (2 ^ 50 + 1 + 2) W.1.1.stands W.1.1.low (omega arith)))) W.1.1.low,
    )

pub returns-clause-applied : goal.returns-clause-applied
returns-clause-applied g c = λ a node I alone.
    let here = node_here c.args.state.now c.args.item a node (removes_hook c.args.item c.args.hook a node) I in
    let w = world_at a c.args.item in
    let v = world_asked a c.args.item c.in-Some.end in
    let end = sym (c.hook_of.ensures ∙ ap (λ (o : Option NodeRecord). hook_at o c.args.hook) here) ∙ c.in-Some.is in
    let go = sym (c.stays_without.ensures node (ap (λ (t : Topology). node_in t.nodes c.args.item.to) c.widen.ensures.graph ∙ here)) ∙ c.if-stays_without.false in
    let more = waits_leave w c.args.item.to c.args.item.to c.in-Some.end.peer.node c.args.item.stamp c.in-Some.end.peer.hook c.in-Some.end.link in
    let gone = c.remove-node.ensures.stands (in_world (done_from a c.args.item) v) (c.ask_peer-2.ensures.stands a (c.widen_for_drops.ensures.stands a (c.widen.ensures.stands a I.stands)) I.at.out)
    (alone_accepted (done_from a c.args.item) c.args.item.to.0 c.args.item.to c.in-Some.end.peer.node c.args.item.stamp (Leave c.in-Some.end.peer.hook c.in-Some.end.link) None
    (old_beside c.args.state.now a c.args.item I.stands) alone) in
    let stands = stepped c.args.state.now c.remove-node.new.state c.args.item a node (removes_hook c.args.item c.args.hook a node) I
    (subst (λ (cs : List Change). Stands c.remove-node.new.state (in_world (done_from a c.args.item) (change_all c.args.item.to c.args.item.stamp w cs)))
    (sym (rmhook_changes w c.args.item node c.args.hook c.in-Some.end false end go))
    (subst (λ (cs : List Change). Stands c.remove-node.new.state (in_world (done_from a c.args.item) (change_all c.args.item.to c.args.item.stamp (retire v c.args.item.to) cs))) (same_follows w v c.args.item.to more) gone)) in (
      stands,
      box_comes g.B.Node.state c.remove-node.new.state (applied_from a c.args.item) c.args.item.to node c.remove-node.result stands c.remove-node.ensures.gone
          (c.remove-node.ensures.node node (ap (λ (t : Topology). node_in t.nodes c.args.item.to) (c.ask_peer-2.ensures.graph ∙ c.widen_for_drops.ensures.graph ∙ c.widen.ensures.graph) ∙ here)),
    )
