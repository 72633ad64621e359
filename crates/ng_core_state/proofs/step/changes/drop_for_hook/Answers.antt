use Rattle.std.proofs.Common.{refl}
use Rattle.ng_core_state.proofs.step.MadeChanges.{stands_dropped}
use Rattle.ng_core_state.proofs.step.changes.drop_for_hook.Goals as goal

pub returns-clause-stands : goal.returns-clause-stands
returns-clause-stands g c = λ a S o.
    stands_dropped c.args.state.now _ a c.args.item.now S o c.requires.leaves (c.drop_for_hook.ensures.holds a S.items o) refl c.drop_for_hook.ensures.lists refl refl
