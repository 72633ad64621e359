-- Room for the first so many.
use Rattle.std.proofs.Common.{◌≡◌, ℕ, ◌+◌, ◌<◌, ◌≤◌, length}
use Rattle.std.specs.Prelude.{take}
use Rattle.ng_machine.specs.Change.{most_frames}
use Rattle.ng_machine.specs.Run.{RunState}
use Rattle.ng_machine.specs.World.{node_in}
use Rattle.ng_queue.specs.Queues.{spare_at}
use Rattle.ng_core_state.specs.Room.{wants}
use Rattle.ng_core_state.specs.Stands.{Stands}
use Rattle.ng_core_state.specs.service.Front.{goers}
use Rattle.ng_core_state.proofs.service.room.widen_sends.Given as goal

abbrev pub invariant-loop-send : goal.invariant-loop-send
invariant-loop-send g l = record {
  stands : (a : RunState) → Stands l.fn.state a → Stands l.state a;
  graph : l.state.graph ≡ l.fn.state.graph;
  lists : l.state.pending.queues.lists ≡ l.fn.state.pending.queues.lists;
  tally : l.state.pending.tally ≡ l.fn.state.pending.tally;
  enough : most_frames + 1 ≤ l.fn.state.pending.tally.frames + (goers l.fn.state.graph.nodes l.from (take l.send-index l.sends) + l.free);
  room : (n : ℕ) → n < length l.fn.state.pending.queues.lists
      → spare_at l.fn.state.pending.queues.spares n + wants (node_in l.fn.state.graph.nodes l.from) (take l.send-index l.sends) n ≤ spare_at l.state.pending.queues.spares n;
}
