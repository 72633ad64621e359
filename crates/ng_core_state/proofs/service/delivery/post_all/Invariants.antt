-- What is left to send leads to the same world, and there is room for it.
use Rattle.std.proofs.Common.{◌≡◌, length}
use Rattle.std.specs.Prelude.{reverse}
use Rattle.std.specs.Vec.{vec_len}
use Rattle.ng_machine.specs.Change.{change_all}
use Rattle.ng_machine.specs.Effect.{posts}
use Rattle.ng_machine.specs.Run.{RunState}
use Rattle.ng_machine.specs.World.{World}
use Rattle.ng_queue.specs.pending.Holds.{in_world}
use Rattle.ng_queue.specs.tally.Tally.{HasNumbers}
use Rattle.ng_core_state.specs.Stands.{IsStanding, Stands}
use Rattle.ng_core_state.specs.service.Front.{HasFront}
use Rattle.ng_core_state.proofs.service.delivery.post_all.Given as goal

abbrev pub invariant-loop-send : goal.invariant-loop-send
invariant-loop-send g l = record {
  standing : IsStanding l.state;
  graph : l.state.graph ≡ l.fn.state.graph;
  room : HasFront 0 l.state.graph l.from (λ n. 0) (reverse l.backwards.items) l.state.pending;
  numbers : HasNumbers (length (reverse l.backwards.items)) l.state.pending.tally;
  stands : (a : RunState) → Stands l.fn.state a → (v : World) × Stands l.state (in_world a v)
      × (change_all l.from l.stamp v (posts (reverse l.backwards.items)) ≡ change_all l.from l.stamp a.world (posts l.fn.sends));
}

abbrev pub decreases-loop-send : goal.decreases-loop-send
decreases-loop-send g l = vec_len l.backwards
