use Rattle.std.proofs.Common.{refl}
use Rattle.ng_queue.specs.declared.tally.tally.Tally.{Tally}
use Rattle.ng_machine.specs.Change.{lose}
use Rattle.ng_queue.specs.tally.Tally.{lost_by}
use Rattle.ng_queue.proofs.pending.HeldItems.{counted_held}
use Rattle.ng_queue.proofs.pending.pending.Pending.lose.Goals as goal

pub returns-clause-holds : goal.returns-clause-holds
returns-clause-holds c = λ a H.
    counted_held c.args.self.now _ a (lose c.args.cause a.world) (λ (t : Tally). lost_by t c.args.cause) H refl refl c.lose.ensures refl refl refl
