use Rattle.std.proofs.Common.{◌∙◌, ◌∷◌, ℕ, ◌+◌, Option, List, Some, length, sym, ap, subst, arith}
use Rattle.ng_machine.specs.declared.farewell.Farewell.TheVariants.{Stay}
use Rattle.ng_machine.specs.declared.hook.Hook.{Hook}
use Rattle.ng_machine.specs.Change.{Sets, change_all}
use Rattle.ng_machine.specs.Retire.{leave_steps}
use Rattle.ng_machine.specs.World.{NodeRecord, World, node_id, node_in, without_hooks}
use Rattle.ng_machine.proofs.NodeLists.{get_here, given_number}
use Rattle.ng_core_state.specs.step.Changed.{with_node}
use Rattle.ng_core_state.specs.step.Steps.{world_at}
use Rattle.ng_core_state.proofs.step.ByLink.{set_there}
use Rattle.ng_core_state.proofs.step.Stepping.{node_here, numbers, ok_of, stepped}
use Rattle.ng_queue.specs.declared.pending.pending.Pending.{Pending}
use Rattle.ng_queue.specs.pending.Holds.{done_from, in_world}
use Rattle.ng_queue.specs.declared.entry.Entry.{Entry}
use Rattle.ng_queue.specs.Queues.{spare_at}
use Rattle.ng_core_apply.specs.removal.Drops.{peers}
use Rattle.ng_core_apply.specs.removal.Removals.{bids_farewell}
use Rattle.ng_core_apply.proofs.removal.AskedPeers.{queue_of}
use Rattle.ng_core_apply.proofs.removal.Waiting.{nothing_comes}
use Rattle.ng_core_state.specs.step.Applied.{applied_from}
use Rattle.ng_queue.specs.tally.Tally.{HasNumbers}
use Rattle.ng_topology.specs.Topology.{Topology}
use Rattle.ng_core_state.specs.Stands.{Stands}
use Rattle.ng_core_apply.proofs.removal.staying.apply_staying.Goals as goal

pub finish-requires-clause-numbers : goal.finish-requires-clause-numbers
finish-requires-clause-numbers g c κs within =
    let W = c.requires.work in subst (HasNumbers 1) (sym c.widen_peers.ensures.tally) (numbers c.args.state.now W.0 1 W.1.1.stands W.1.1.low (omega arith))

pub ask_peers-requires-clause-standing : goal.ask_peers-requires-clause-standing
ask_peers-requires-clause-standing g c κs within =
    let W = c.requires.work in
    (_, c.clear_hooks.ensures.stands (done_from W.0 c.args.item) W.1.0 (c.finish.ensures.stands W.0 (c.widen_peers.ensures.stands W.0 W.1.1.stands) W.1.1.at.out) W.1.1.at.here)

pub ask_peers-requires-clause-room : goal.ask_peers-requires-clause-room
ask_peers-requires-clause-room g c κs within = λ m node here.
    let W = c.requires.work in
    let T = c.clear_hooks.ensures.stands (done_from W.0 c.args.item) W.1.0 (c.finish.ensures.stands W.0 (c.widen_peers.ensures.stands W.0 W.1.1.stands) W.1.1.at.out) W.1.1.at.here in
    let lt = queue_of c.clear_hooks.new.state (in_world (done_from W.0 c.args.item) (with_node (world_at W.0 c.args.item) c.args.item.to (without_hooks W.1.0))) (node_id m) node T here in
    let l1 = ap (λ (l : List (List Entry)). length l) c.widen_peers.ensures.lists in
    let l2 = c.finish.ensures.lists in
    let l3 = ap (λ (p : Pending). length p.queues.lists) c.clear_hooks.ensures.pending in
    let one = ok_of c.widen_peers.result (sym c.is_err.ensures.value ∙ c.if-is_err.false) c.widen_peers.ensures.room m (omega arith) in
    let e = ap (λ (l : List ℕ). spare_at l m) c.finish.ensures.spares in
    let f = ap (λ (p : Pending). spare_at p.queues.spares m) c.clear_hooks.ensures.pending in
    let q = ap (λ (l : List Hook). peers l m) c.as_slice.ensures.value in
    omega arith

pub ask_peers-requires-clause-numbers : goal.ask_peers-requires-clause-numbers
ask_peers-requires-clause-numbers g c κs within =
    let W = c.requires.work in
    let few = c.widen_peers.ensures.few in
    let same = ap (λ (l : List Hook). length l) c.as_slice.ensures.value in
    subst (λ (p : Pending). HasNumbers (length c.in-Ok.hooks.items) p.tally) (sym c.clear_hooks.ensures.pending)
    (c.finish.ensures.numbers (length c.in-Ok.hooks.items)
    (subst (HasNumbers (length c.in-Ok.hooks.items + 1)) (sym c.widen_peers.ensures.tally)
    (numbers c.args.state.now W.0 (length c.in-Ok.hooks.items + 1) W.1.1.stands W.1.1.low (omega arith))))

pub returns-clause-applied : goal.returns-clause-applied
returns-clause-applied g c = λ a node I alone.
    let here = node_here c.args.state.now c.args.item a node (bids_farewell c.args.item Stay a node) I in
    let w = world_at a c.args.item in
    let now = without_hooks node in
    let v = with_node w c.args.item.to now in
    let bare = c.clear_hooks.ensures.stands (done_from a c.args.item) node (c.finish.ensures.stands a (c.widen_peers.ensures.stands a I.stands) I.at.out) I.at.here in
    let asked = c.ask_peers.ensures.stands (in_world (done_from a c.args.item) v) bare in
    let stands = stepped c.args.state.now c.ask_peers.new.state c.args.item a node (bids_farewell c.args.item Stay a node) I
    (subst (λ (l : List Hook). Stands c.ask_peers.new.state (in_world (done_from a c.args.item) (change_all c.args.item.to c.args.item.stamp w (Sets now ∷ leave_steps c.args.item.to l)))) (c.in-Ok.ensures node here)
    (subst (λ (u : World). Stands c.ask_peers.new.state (in_world (done_from a c.args.item) (change_all c.args.item.to c.args.item.stamp u (leave_steps c.args.item.to c.in-Ok.hooks.items))))
    (sym (set_there w c.args.item.to node now I.at.here)) asked)) in (
      stands,
      nothing_comes g.B.Node.state c.ask_peers.new.state (applied_from a c.args.item) c.args.item.to node now stands
          (ap (λ (t : Topology). node_in t.nodes c.args.item.to) c.ask_peers.ensures.graph
          ∙ ap (λ (l : List (Option NodeRecord)). node_in l c.args.item.to) bare.graph.nodes
          ∙ get_here w.nodes c.args.item.to.0 (Some now) (given_number w.nodes c.args.item.to.0 node I.at.here)),
    )
