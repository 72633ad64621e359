use Rattle.std.proofs.Common.{refl}
use Rattle.ng_core_state.proofs.ServedItems.{stands_served}
use Rattle.ng_core_state.proofs.service.parts.dequeue.Goals as goal

pub returns-clause-stands : goal.returns-clause-stands
returns-clause-stands g c = λ a S.
    stands_served c.args.state.now (record c.args.state.now { pending = c.dequeue.new.self }) a c.dequeue.result c.args.seat S (c.dequeue.ensures.next a S.items).0
    (c.requires.leaves c.dequeue.result c.dequeue.ensures.head) (c.dequeue.ensures.holds a S.items) refl c.dequeue.ensures.lists refl refl
