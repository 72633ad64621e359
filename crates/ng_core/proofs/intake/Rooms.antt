-- Room that a command has made stays while its line is told.
use Rattle.std.proofs.Common.{◌≡◌, ◌<◌, length, sym, subst}
use Rattle.ng_queue.specs.Queues.{QueueLists, spare_at}
use Rattle.ng_core_state.specs.declared.state.State.{State}
use Rattle.ng_core.specs.declared.intake.decided.Decided.{Decided}
use Rattle.ng_core.specs.declared.intake.decided.Decided.TheVariants.{Refuse, Help, Nothing, Accept}
use Rattle.ng_core.specs.intake.Intake.{HasRoomFor}

pub room_stays : {B : Type 0} (s t : State B) (d : Decided) → t.pending.queues ≡ s.pending.queues → HasRoomFor s d → HasRoomFor t d
room_stays s t (Refuse errno why) e R = R
room_stays s t Help e R = R
room_stays s t Nothing e R = R
room_stays s t (Accept to body tag) e R = subst (λ (q : QueueLists). to.0 < length q.lists → 0 < spare_at q.spares to.0) (sym e) R
