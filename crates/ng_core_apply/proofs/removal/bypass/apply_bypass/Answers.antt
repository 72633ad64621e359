use Rattle.std.proofs.Common.{◌∙◌, ℕ, ◌+◌, ◌^◌, ◌++◌, List, length, flat_map, sym, ap, subst, arith}
use Rattle.std.specs.Prelude.{vec_len, vec_capacity}
use Rattle.ng_machine.specs.declared.hook.Hook.{Hook}
use Rattle.ng_machine.specs.declared.item.Item.{Item}
use Rattle.ng_machine.specs.Change.{change_all, retire}
use Rattle.ng_machine.specs.Retire.{aftermath, leave_steps, retiring}
use Rattle.ng_machine.specs.World.{World, node_id, node_in}
use Rattle.ng_queue.specs.pending.Holds.{done_from, in_world}
use Rattle.ng_queue.specs.declared.entry.Entry.{Entry}
use Rattle.ng_queue.specs.Queue.{waiting_items}
use Rattle.ng_queue.specs.Queues.{list_at, spare_at}
use Rattle.ng_queue.specs.tally.Tally.{HasNumbers}
use Rattle.ng_topology.specs.Topology.{Topology}
use Rattle.ng_core_state.specs.Stands.{Stands}
use Rattle.ng_core_state.specs.step.Steps.{world_at}
use Rattle.ng_core_apply.specs.removal.Drops.{peers, undoes}
use Rattle.ng_core_apply.specs.removal.Removals.{bypasses, world_bypassed}
use Rattle.ng_core_state.specs.step.Applied.{applied_from}
use Rattle.ng_core_state.proofs.step.Stepping.{node_here, numbers, ok_of, stepped}
use Rattle.ng_core_apply.proofs.removal.AskedPeers.{asked_alone, asked_items, queue_of}
use Rattle.ng_core_apply.proofs.removal.Bypassed.{bypassed_alone, bypassed_items}
use Rattle.ng_core_apply.proofs.removal.Following.{change_both}
use Rattle.ng_core_apply.proofs.removal.Waiting.{box_comes, may_go, old_beside, waits_same}
use Rattle.ng_core_apply.proofs.removal.bypass.apply_bypass.Goals as goal

pub finish-requires-clause-numbers : goal.finish-requires-clause-numbers
finish-requires-clause-numbers g c κs within =
    let W = c.requires.work in
    subst (HasNumbers 1) (sym (c.widen_for_drops.ensures.tally ∙ c.widen_both.ensures.tally ∙ c.widen_peers.ensures.tally)) (numbers c.args.state.now W.0 1 W.1.1.stands W.1.1.low (omega arith))

pub rebind_both-requires-clause-standing : goal.rebind_both-requires-clause-standing
rebind_both-requires-clause-standing g c κs within =
    let W = c.requires.work in
    (done_from W.0 c.args.item, c.finish.ensures.stands W.0 (c.widen_for_drops.ensures.stands W.0 (c.widen_both.ensures.stands W.0 (c.widen_peers.ensures.stands W.0 W.1.1.stands))) W.1.1.at.out)

pub rebind_both-requires-clause-room : goal.rebind_both-requires-clause-room
rebind_both-requires-clause-room g c κs within = λ m node here.
    let W = c.requires.work in
    let F = c.finish.ensures.stands W.0 (c.widen_for_drops.ensures.stands W.0 (c.widen_both.ensures.stands W.0 (c.widen_peers.ensures.stands W.0 W.1.1.stands))) W.1.1.at.out in
    let lt = queue_of c.finish.new.state (done_from W.0 c.args.item) (node_id m) node F here in
    let l1 = ap (λ (l : List (List Entry)). length l) c.widen_peers.ensures.lists in
    let l2 = ap (λ (l : List (List Entry)). length l) c.widen_both.ensures.lists in
    let l3 = ap (λ (l : List (List Entry)). length l) c.widen_for_drops.ensures.lists in
    let l4 = c.finish.ensures.lists in
    let two = ok_of c.widen_both.result (sym c.is_err-2.ensures.value ∙ c.if-is_err-2.false) c.widen_both.ensures.room m (omega arith) in
    let drops = ok_of c.widen_for_drops.result (sym c.is_err-3.ensures.value ∙ c.if-is_err-3.false) c.widen_for_drops.ensures.room m (omega arith) in
    let e = ap (λ (l : List ℕ). spare_at l m) c.finish.ensures.spares in
    omega arith

pub rebind_both-requires-clause-numbers : goal.rebind_both-requires-clause-numbers
rebind_both-requires-clause-numbers g c κs within =
    let W = c.requires.work in
    c.finish.ensures.numbers 2 (subst (HasNumbers (2 + 1)) (sym (c.widen_for_drops.ensures.tally ∙ c.widen_both.ensures.tally ∙ c.widen_peers.ensures.tally)) (numbers c.args.state.now W.0 (2 + 1) W.1.1.stands W.1.1.low (omega arith)))

pub ask_peers-requires-clause-standing : goal.ask_peers-requires-clause-standing
ask_peers-requires-clause-standing g c κs within =
    let W = c.requires.work in
    (_, c.rebind_both.ensures.stands (done_from W.0 c.args.item) (c.finish.ensures.stands W.0 (c.widen_for_drops.ensures.stands W.0 (c.widen_both.ensures.stands W.0 (c.widen_peers.ensures.stands W.0 W.1.1.stands))) W.1.1.at.out))

pub ask_peers-requires-clause-room : goal.ask_peers-requires-clause-room
ask_peers-requires-clause-room g c κs within = λ m node here.
    let W = c.requires.work in
    let F = c.finish.ensures.stands W.0 (c.widen_for_drops.ensures.stands W.0 (c.widen_both.ensures.stands W.0 (c.widen_peers.ensures.stands W.0 W.1.1.stands))) W.1.1.at.out in
    let lt = queue_of c.finish.new.state (done_from W.0 c.args.item) (node_id m) node F (ap (λ (t : Topology). node_in t.nodes (node_id m)) (sym c.rebind_both.ensures.graph) ∙ here) in
    let l1 = ap (λ (l : List (List Entry)). length l) c.widen_peers.ensures.lists in
    let l2 = ap (λ (l : List (List Entry)). length l) c.widen_both.ensures.lists in
    let l3 = ap (λ (l : List (List Entry)). length l) c.widen_for_drops.ensures.lists in
    let l4 = c.finish.ensures.lists in
    let one = ok_of c.widen_peers.result (sym c.is_err.ensures.value ∙ c.if-is_err.false) c.widen_peers.ensures.room m (omega arith) in
    let two = ok_of c.widen_both.result (sym c.is_err-2.ensures.value ∙ c.if-is_err-2.false) c.widen_both.ensures.room m (omega arith) in
    let drops = ok_of c.widen_for_drops.result (sym c.is_err-3.ensures.value ∙ c.if-is_err-3.false) c.widen_for_drops.ensures.room m (omega arith) in
    let e = ap (λ (l : List ℕ). spare_at l m) c.finish.ensures.spares in
    let q = ap (λ (l : List Hook). peers l m) c.as_slice.ensures.value in
    let s = c.rebind_both.ensures.spares m in
    omega arith

pub ask_peers-requires-clause-numbers : goal.ask_peers-requires-clause-numbers
ask_peers-requires-clause-numbers g c κs within =
    let W = c.requires.work in
    let few = c.widen_peers.ensures.few in
    let same = ap (λ (l : List Hook). length l) c.as_slice.ensures.value in
    c.rebind_both.ensures.numbers (length c.in-Ok.hooks.items) (c.finish.ensures.numbers (length c.in-Ok.hooks.items + 2)
    (subst (HasNumbers (length c.in-Ok.hooks.items + 2 + 1)) (sym (c.widen_for_drops.ensures.tally ∙ c.widen_both.ensures.tally ∙ c.widen_peers.ensures.tally))
    (numbers c.args.state.now W.0 (length c.in-Ok.hooks.items + 2 + 1) W.1.1.stands W.1.1.low (omega arith))))

pub remove-node-requires-clause-work : goal.remove-node-requires-clause-work
remove-node-requires-clause-work g c κs within =
    let W = c.requires.work in
    let w = world_at W.0 c.args.item in
    let u = world_bypassed c.args.item c.args.first c.args.second w in
    let v = change_all c.args.item.to c.args.item.stamp u (leave_steps c.args.item.to c.in-Ok.hooks.items) in
    let few = c.widen_peers.ensures.few in
    let same = ap (λ (l : List Hook). length l) c.as_slice.ensures.value in
    let l1 = ap (λ (l : List (List Entry)). length l) c.widen_peers.ensures.lists in
    let l2 = ap (λ (l : List (List Entry)). length l) c.widen_both.ensures.lists in
    let one = ok_of c.widen_peers.result (sym c.is_err.ensures.value ∙ c.if-is_err.false) c.widen_peers.ensures.room in
    let two = ok_of c.widen_both.result (sym c.is_err-2.ensures.value ∙ c.if-is_err-2.false) c.widen_both.ensures.room in
    let ok = sym c.is_err-3.ensures.value ∙ c.if-is_err-3.false in
    let room = ok_of c.widen_for_drops.result ok c.widen_for_drops.ensures.room in
    let told = ok_of c.widen_for_drops.result ok c.widen_for_drops.ensures.told in
    let T = c.ask_peers.ensures.stands (in_world (done_from W.0 c.args.item) u) (c.rebind_both.ensures.stands (done_from W.0 c.args.item)
    (c.finish.ensures.stands W.0 (c.widen_for_drops.ensures.stands W.0 (c.widen_both.ensures.stands W.0 (c.widen_peers.ensures.stands W.0 W.1.1.stands))) W.1.1.at.out)) in
    let A = bypassed_alone (done_from W.0 c.args.item) c.args.item.to.0 c.args.item c.args.first c.args.second (record { old = old_beside c.args.state.now W.0 c.args.item W.1.1.stands; none = W.1.2 }) in (
      in_world (done_from W.0 c.args.item) v,
      may_go c.args.state.now c.ask_peers.new.state W.0 c.args.item v W.1.1.stands W.1.1.at.out W.1.2 T
          (waits_same w v c.args.item.to (asked_items u c.args.item.to c.args.item.to c.args.item.stamp c.in-Ok.hooks.items ∙ bypassed_items w c.args.item c.args.first c.args.second c.requires.away.0 c.requires.away.1))
          (asked_alone (in_world (done_from W.0 c.args.item) u) c.args.item.to.0 c.args.item.to c.args.item.to c.args.item.stamp c.in-Ok.hooks.items A).none
          (λ m lt.
          let p = one m lt in
          let t = two m (omega arith) in
          let r = room m (let a = l2 in omega arith) in
          let f = ap (λ (l : List (List Entry)). undoes (waiting_items (list_at l c.args.item.to.0)) m) (c.widen_both.ensures.lists ∙ c.widen_peers.ensures.lists) in
          let e = ap (λ (l : List ℕ). spare_at l m) c.finish.ensures.spares in
          let q = ap (λ (l : List Hook). peers l m) c.as_slice.ensures.value in
          let b = c.rebind_both.ensures.spares m in
          let s = c.ask_peers.ensures.spares m in omega arith)
          (let same_told = c.ask_peers.ensures.told ∙ c.rebind_both.ensures.told ∙ c.finish.ensures.told in
          let len = ap vec_len same_told in let cap = ap vec_capacity same_told in
          let f = ap (λ (l : List (List Entry)). length (waiting_items (list_at l c.args.item.to.0))) (c.widen_both.ensures.lists ∙ c.widen_peers.ensures.lists) in omega arith)
          (c.ask_peers.ensures.lists ∙ c.rebind_both.ensures.lists ∙ c.finish.ensures.lists ∙ ap (λ (l : List (List Entry)). length l) (c.widen_for_drops.ensures.lists ∙ c.widen_both.ensures.lists ∙ c.widen_peers.ensures.lists))
          (c.ask_peers.ensures.numbers (2 ^ 50 + 1) (c.rebind_both.ensures.numbers (2 ^ 50 + 1 + length c.in-Ok.hooks.items) (c.finish.ensures.numbers (2 ^ 50 + 1 + length c.in-Ok.hooks.items + 2)
          (subst (HasNumbers (2 ^ 50 + 1 + length c.in-Ok.hooks.items + 2 + 1)) (sym (c.widen_for_drops.ensures.tally ∙ c.widen_both.ensures.tally ∙ c.widen_peers.ensures.tally))
          (numbers c.args.state.now W.0 (2 ^ 50 + 1 + length c.in-Ok.hooks.items + 2 + 1) W.1.1.stands W.1.1.low (omega arith)))))) W.1.1.low,
    )

pub returns-clause-applied : goal.returns-clause-applied
returns-clause-applied g c = λ a node I alone.
    let here = node_here c.args.state.now c.args.item a node (bypasses c.args.item c.args.names.now.0 c.args.names.now.1 c.args.first c.args.second a node) I in
    let w = world_at a c.args.item in
    let u = world_bypassed c.args.item c.args.first c.args.second w in
    let v = change_all c.args.item.to c.args.item.stamp u (leave_steps c.args.item.to c.in-Ok.hooks.items) in
    let same = asked_items u c.args.item.to c.args.item.to c.args.item.stamp c.in-Ok.hooks.items ∙ bypassed_items w c.args.item c.args.first c.args.second c.requires.away.0 c.requires.away.1 in
    let A = bypassed_alone (done_from a c.args.item) c.args.item.to.0 c.args.item c.args.first c.args.second (record { old = old_beside c.args.state.now a c.args.item I.stands; none = alone }) in
    let gone = c.remove-node.ensures.stands (in_world (done_from a c.args.item) v)
    (c.ask_peers.ensures.stands (in_world (done_from a c.args.item) u) (c.rebind_both.ensures.stands (done_from a c.args.item)
    (c.finish.ensures.stands a (c.widen_for_drops.ensures.stands a (c.widen_both.ensures.stands a (c.widen_peers.ensures.stands a I.stands))) I.at.out)))
    (asked_alone (in_world (done_from a c.args.item) u) c.args.item.to.0 c.args.item.to c.args.item.to c.args.item.stamp c.in-Ok.hooks.items A).none in
    let stands = stepped c.args.state.now c.remove-node.new.state c.args.item a node (bypasses c.args.item c.args.names.now.0 c.args.names.now.1 c.args.first c.args.second a node) I
    (subst (λ (l : List Hook). Stands c.remove-node.new.state (in_world (done_from a c.args.item) (change_all c.args.item.to c.args.item.stamp u (leave_steps c.args.item.to l ++ retiring w c.args.item)))) (c.in-Ok.ensures node here)
    (subst (λ (x : World). Stands c.remove-node.new.state (in_world (done_from a c.args.item) x)) (sym (change_both c.args.item.to c.args.item.stamp u (leave_steps c.args.item.to c.in-Ok.hooks.items) (retiring w c.args.item)))
    (subst (λ (l : List Item). Stands c.remove-node.new.state (in_world (done_from a c.args.item) (change_all c.args.item.to c.args.item.stamp (retire v c.args.item.to) (flat_map aftermath l)))) same gone))) in (
      stands,
      box_comes g.B.Node.state c.remove-node.new.state (applied_from a c.args.item) c.args.item.to node c.remove-node.result stands c.remove-node.ensures.gone
          (c.remove-node.ensures.node node (ap (λ (t : Topology). node_in t.nodes c.args.item.to) (c.ask_peers.ensures.graph ∙ c.rebind_both.ensures.graph)
          ∙ ap (λ (t : Topology). node_in t.nodes c.args.item.to) (c.finish.ensures.graph ∙ c.widen_for_drops.ensures.graph ∙ c.widen_both.ensures.graph ∙ c.widen_peers.ensures.graph) ∙ here)),
    )
