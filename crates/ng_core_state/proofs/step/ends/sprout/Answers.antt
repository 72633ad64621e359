use Rattle.std.proofs.Common.{refl}
use Rattle.ng_core_state.proofs.step.Sprouted.{stands_sprouted}
use Rattle.ng_core_state.proofs.step.ends.sprout.Goals as goal

pub returns-clause-stands : goal.returns-clause-stands
returns-clause-stands g c = λ a node S here.
    stands_sprouted c.args.state.now _ a c.args.at.now node c.args.kind c.args.hook.now S here c.requires.home c.requires.left c.in_ok-sprout.ensures.ok refl refl refl
