use Rattle.std.proofs.Common.{refl}
use Rattle.ng_core_state.proofs.SentItems.{stands_done}
use Rattle.ng_core_state.proofs.service.parts.finish.Goals as goal

pub returns-clause-stands : goal.returns-clause-stands
returns-clause-stands g c = λ a S o.
    stands_done c.args.state.now (record c.args.state.now { pending = c.finish.new.self }) a c.args.item.now S o c.requires.leaves (c.finish.ensures.holds a S.items o) refl c.finish.ensures.lists refl refl
