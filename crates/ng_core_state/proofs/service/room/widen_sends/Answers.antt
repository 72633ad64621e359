use Rattle.std.proofs.Common.{◌≡◌, ◌∙◌, ◌+◌, ◌<◌, ◌≤◌, inr, List, length, ap, subst, arith}
use Rattle.std.proofs.lemmas.Grind.{common_steps}
use Rattle.ng_machine.specs.Change.{most_frames}
use Rattle.ng_machine.specs.World.{hook_at, node_in}
use Rattle.ng_queue.specs.declared.entry.Entry.{Entry}
use Rattle.ng_queue.specs.Queues.{spare_at}
use Rattle.ng_queue.specs.tie.TieLaws.{one}
use Rattle.ng_topology.specs.Topology.{Topology}
use Rattle.ng_core_state.specs.Room.{goes_on, goes_to}
use Rattle.ng_core_state.proofs.service.Fronts.{reach_next}
use Rattle.ng_core_state.proofs.service.Sending.{room_next}
use Rattle.ng_core_state.proofs.service.room.widen_sends.Goals as goal
use Rattle.ng_core_state.proofs.service.room.widen_sends.Goals.{then-branch, else-branch}

pub loop-send-preserved : goal.loop-send-preserved
loop-send-preserved g c =
    let inside : c.loop-send.send-index < length c.args.sends.now = grind (arith, common_steps) in
    let goes : c.in_ok-widen_for.field-0 ≡ goes_on c.args.state.now.graph.nodes (hook_at (node_in c.args.state.now.graph.nodes c.args.from) c.send-item.result.0) =
    c.in_ok-widen_for.ensures.goes_on ∙ ap (λ (t : Topology). goes_on t.nodes (hook_at (node_in t.nodes c.args.from) c.send-item.result.0)) c.loop-send.invariant.graph in
    let less : c.loop-send.free ≤ c.if-branch.free + one c.in_ok-widen_for.field-0 =
    elim c.if-branch.branch [
      | then-branch w ↦ let is : one c.in_ok-widen_for.field-0 ≡ 1 = ap one w.if-branch.true in let e = w.free-is in omega arith
      | else-branch w ↦ let e = w.free-is in omega arith
    ] in
    record {
      stands = λ a S. c.widen_for.ensures.stands a (c.loop-send.invariant.stands a S);
      graph = c.widen_for.ensures.graph ∙ c.loop-send.invariant.graph;
      lists = c.widen_for.ensures.lists ∙ c.loop-send.invariant.lists;
      tally = c.widen_for.ensures.tally ∙ c.loop-send.invariant.tally;
      enough = reach_next c.args.state.now.graph.nodes c.args.from c.args.sends.now c.loop-send.send-index c.send-item.result (most_frames + 1) c.args.state.now.pending.tally.frames c.loop-send.free c.if-branch.free
          c.in_ok-widen_for.field-0 inside c.send-item.is goes less c.loop-send.invariant.enough;
      room = λ n lt.
          let here : n < length c.loop-send.state.pending.queues.lists = let e = ap (λ (l : List (List Entry)). length l) c.loop-send.invariant.lists in omega arith in
          room_next (node_in c.args.state.now.graph.nodes c.args.from) c.args.sends.now c.loop-send.send-index n c.send-item.result (spare_at c.args.state.now.pending.queues.spares n)
          (spare_at c.loop-send.state.pending.queues.spares n) (spare_at c.widen_for.new.self.pending.queues.spares n) inside c.send-item.is (c.loop-send.invariant.room n lt)
          (subst (λ (t : Topology). spare_at c.loop-send.state.pending.queues.spares n + one (goes_to (hook_at (node_in t.nodes c.args.from) c.send-item.result.0) n) ≤ spare_at c.widen_for.new.self.pending.queues.spares n)
          c.loop-send.invariant.graph (c.in_ok-widen_for.ensures.room n here));
    }

pub returns-then-free-eq0-clause-room : goal.returns-then-free-eq0-clause-room
returns-then-free-eq0-clause-room g c =
    let enough = c.loop-send.invariant.enough in (
      c.loop-send.send-index,
      inr (omega arith),
      c.loop-send.invariant.room,
    )
