use Rattle.std.proofs.Common.{refl}
use Rattle.ng_core_state.proofs.TakenItems.{stands_lent}
use Rattle.ng_core_state.proofs.state.State.lend.Goals as goal

pub returns-clause-stands : goal.returns-clause-stands
returns-clause-stands g c = λ a node S here W. stands_lent c.args.self.now _ a c.args.at node S here W c.lend.ensures.after refl refl refl
