use Rattle.std.proofs.Common.{refl}
use Rattle.ng_core_state.proofs.SentItems.{has_queue, stands_accepted}
use Rattle.ng_core_state.proofs.state.State.accept.Goals as goal

pub accept-requires-clause-holds : goal.accept-requires-clause-holds
accept-requires-clause-holds g c = (c.requires.there.0, c.requires.there.1.items)

pub accept-requires-clause-there : goal.accept-requires-clause-there
accept-requires-clause-there g c = has_queue c.args.self.now c.requires.there.0 c.args.to c.requires.there.2.0 c.requires.there.1 c.requires.there.2.1

pub returns-clause-stands : goal.returns-clause-stands
returns-clause-stands g c = λ a node S here k.
    stands_accepted c.args.self.now _ a node c.args.to c.args.kind c.args.body c.args.tag c.args.stamp S here k (c.accept.ensures.holds a S.items) refl c.accept.ensures.lists refl refl
