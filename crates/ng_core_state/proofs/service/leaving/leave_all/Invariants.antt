-- What is left to leave leads to the same world, and there is room for it.
use Rattle.std.proofs.Common.{◌≡◌, ℕ, ◌+◌, length}
use Rattle.std.specs.Prelude.{reverse}
use Rattle.std.specs.Vec.{vec_len}
use Rattle.ng_machine.specs.Change.{change_all}
use Rattle.ng_machine.specs.Effect.{exits}
use Rattle.ng_machine.specs.Run.{RunState}
use Rattle.ng_machine.specs.World.{World}
use Rattle.ng_queue.specs.pending.Holds.{in_world}
use Rattle.ng_queue.specs.tally.Tally.{HasNumbers}
use Rattle.ng_core_state.specs.Stands.{Stands}
use Rattle.ng_core_state.specs.service.Leaving.{AllMayLeaveBy, name_or_empty}
use Rattle.ng_core_state.specs.service.Room.{HasRoomToLeave}
use Rattle.ng_core_state.proofs.service.leaving.leave_all.Given as goal

abbrev pub invariant-loop-exit : goal.invariant-loop-exit
invariant-loop-exit g l = record {
  may : AllMayLeaveBy l.hook (reverse l.backwards.items);
  room : HasRoomToLeave l.at (length (reverse l.backwards.items)) l.state;
  numbers : (k : ℕ) → HasNumbers (k + length l.fn.leaves) l.fn.state.pending.tally → HasNumbers (k + length (reverse l.backwards.items)) l.state.pending.tally;
  graph : l.state.graph ≡ l.fn.state.graph;
  frames : l.state.pending.tally.frames ≡ l.fn.state.pending.tally.frames;
  queues : l.state.pending.queues ≡ l.fn.state.pending.queues;
  stands : (a : RunState) → Stands l.fn.state a → (v : World) × Stands l.state (in_world a v)
      × (change_all l.at l.stamp v (exits (name_or_empty l.hook) (reverse l.backwards.items)) ≡ change_all l.at l.stamp a.world (exits (name_or_empty l.hook) l.fn.leaves));
}

abbrev pub decreases-loop-exit : goal.decreases-loop-exit
decreases-loop-exit g l = vec_len l.backwards
