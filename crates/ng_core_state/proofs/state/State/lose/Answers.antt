use Rattle.std.proofs.Common.{length, ap, refl}
use Rattle.ng_machine.specs.Change.{lose}
use Rattle.ng_queue.specs.Queues.{QueueLists}
use Rattle.ng_core_state.proofs.SentItems.{stands_counted}
use Rattle.ng_core_state.proofs.state.State.lose.Goals as goal

pub returns-clause-stands : goal.returns-clause-stands
returns-clause-stands g c = λ a S.
    stands_counted c.args.self.now _ a (lose c.args.cause a.world) S (c.lose.ensures.holds a S.items) refl (ap (λ (q : QueueLists). length q.lists) c.lose.ensures.queues) refl refl
    (record { nodes = refl; stock = refl; next_link = refl; told = refl; ports = refl }) refl
