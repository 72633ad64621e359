use Rattle.std.proofs.Common.{◌≤◌}
use Rattle.std.specs.Vec.{vec_len}
use Rattle.ng_queue.proofs.queue.add_slots.Given as goal

abbrev pub invariant-loop : goal.invariant-loop
invariant-loop l = record {
  more : vec_len l.fn.slots ≤ vec_len l.slots;
  counted : l.counter ≤ vec_len l.slots;
}
