use Rattle.std.proofs.Common.{refl}
use Rattle.ng_queue.proofs.pending.HeldItems.{spooled_held}
use Rattle.ng_queue.proofs.pending.pending.Pending.leave.Goals as goal

pub returns-clause-holds : goal.returns-clause-holds
returns-clause-holds c = λ a H.
    spooled_held c.args.self.now _ a c.args.packet.now c.leave.result H refl refl c.leave.ensures.after
