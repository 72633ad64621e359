use Rattle.std.proofs.Common.{refl}
use Rattle.ng_core_state.proofs.SentItems.{stands_back}
use Rattle.ng_core_state.proofs.state.State.back.Goals as goal

pub back-requires : goal.back-requires
back-requires g c = (c.requires.out.0, c.requires.out.1.items, c.requires.out.2)

pub returns-clause-stands : goal.returns-clause-stands
returns-clause-stands g c = λ a S o. stands_back c.args.self.now _ a c.args.item S o c.requires.leaves (c.back.ensures.holds a S.items o) refl c.back.ensures.lists refl refl
