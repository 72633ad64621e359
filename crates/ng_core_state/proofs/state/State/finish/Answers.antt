use Rattle.std.proofs.Common.{refl}
use Rattle.ng_core_state.proofs.SentItems.{stands_done}
use Rattle.ng_core_state.proofs.state.State.finish.Goals as goal

pub finish-requires-clause-out : goal.finish-requires-clause-out
finish-requires-clause-out g c = (c.requires.out.0, c.requires.out.1.items, c.requires.out.2)

pub returns-clause-stands : goal.returns-clause-stands
returns-clause-stands g c = λ a S o.
    stands_done c.args.self.now _ a c.args.item.now S o c.requires.leaves (c.finish.ensures.holds a S.items o) refl c.finish.ensures.lists refl refl
