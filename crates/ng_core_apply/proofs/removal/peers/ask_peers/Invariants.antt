-- Asking the rest leads to the same world, and there is room for it.
use Rattle.std.proofs.Common.{◌≡◌, ℕ, ◌+◌, ◌≤◌, length}
use Rattle.ng_machine.specs.Change.{change_all}
use Rattle.ng_machine.specs.Retire.{leave_steps}
use Rattle.ng_machine.specs.Run.{RunState}
use Rattle.ng_machine.specs.World.{World}
use Rattle.ng_queue.specs.pending.Holds.{in_world}
use Rattle.ng_queue.specs.Queues.{spare_at}
use Rattle.ng_queue.specs.tally.Tally.{HasNumbers}
use Rattle.ng_core_state.specs.Stands.{IsStanding, Stands}
use Rattle.ng_core_apply.specs.removal.Drops.{HasRoomThere, peers}
use Rattle.ng_core_apply.proofs.removal.peers.ask_peers.Given as goal

abbrev pub invariant-loop-hook : goal.invariant-loop-hook
invariant-loop-hook g l = record {
  standing : IsStanding l.state;
  room : HasRoomThere (peers l.hook-iterator.rest.items) l.state;
  numbers : (k : ℕ) → HasNumbers (k + length l.fn.hooks.items) l.fn.state.pending.tally → HasNumbers (k + length l.hook-iterator.rest.items) l.state.pending.tally;
  graph : l.state.graph ≡ l.fn.state.graph;
  told : l.state.told ≡ l.fn.state.told;
  lists : length l.state.pending.queues.lists ≡ length l.fn.state.pending.queues.lists;
  spares : (m : ℕ) → spare_at l.fn.state.pending.queues.spares m + peers l.hook-iterator.rest.items m ≤ spare_at l.state.pending.queues.spares m + peers l.fn.hooks.items m;
  stands : (a : RunState) → Stands l.fn.state a → (v : World) × Stands l.state (in_world a v)
      × (change_all l.at l.stamp v (leave_steps l.at l.hook-iterator.rest.items) ≡ change_all l.at l.stamp a.world (leave_steps l.at l.fn.hooks.items));
}
