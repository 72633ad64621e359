use Rattle.std.proofs.Common.{rules, ◌≡◌, ◌<◌, [], false, vec_len, IfOk, ℕ, ◌+◌, ◌-◌, ◌*◌, ◌≤◌, length, ◌/◌, ◌%◌, Bool, true, nat_eq, nat_lt, List, ◌∷◌, ◌++◌, slice_index_or, slice_set, bit_and, bit_or, Fits, w8, w32, w64, Bor, MutBor}
use Rattle.std.specs.Thread.{IsSend, IsSync}
use Rattle.std.specs.Vec.{vec_capacity}
use Rattle.ng_core.specs.CoreStory.{CoreStory, story}
use Rattle.ng_machine.specs.story.Story.{AreFitFor, has_ended, run_state_of}
use Rattle.ng_turn.specs.Words.{seat_of}
use Rattle.ng_workers.specs.Desks.{IsOver, IsReady}
use Rattle.ng_workers.specs.Ending.{RanToEnd}
use Rattle.ng_workers.specs.Passes.{AreBackFrom, AreDesksOf, AreReady, Grows, IsOf, desk}
use Rattle.ng_workers.proofs.running.beside.Goals as goal
use denote.Param.Send.{IsSend, sendable}
use Rattle.std.proofs.Crossing.{crosses}
use Rattle.std.proofs.MapsCrossing.{crosses as maps}
use Rattle.ng_core.proofs.Sendable.{core_send}
use Rattle.ng_turn.proofs.Sendable.{pass_send, turn_sync}

-- src/running.rt:43:5
pub join-requires-send-F : goal.join-requires-send-F
join-requires-send-F g c κs within = search (pass_send, turn_sync, core_send, sendable, crosses) depth 90 fits 300000

-- src/running.rt:43:5
pub join-requires-send-A : goal.join-requires-send-A
join-requires-send-A g c κs within = search (pass_send, turn_sync, core_send, sendable, crosses) depth 90 fits 300000
