use Rattle.std.proofs.Common.{refl}
use Rattle.ng_machine.specs.World.{settle_hook, with_changed_hook}
use Rattle.ng_core_state.proofs.step.ChangedNodes.{stands_if}
use Rattle.ng_core_state.proofs.step.ends.settle_end.Goals as goal

pub returns-clause-stands : goal.returns-clause-stands
returns-clause-stands g c = λ a node S here.
    stands_if c.args.state.now _ a c.args.at.now.node node (λ n. with_changed_hook n c.args.at.now.hook settle_hook) c.settle.result S here refl c.requires.home c.settle.ensures.after refl refl refl
