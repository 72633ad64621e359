use Rattle.std.proofs.Common.{refl}
use Rattle.ng_machine.specs.World.{bind_to, with_changed_hook}
use Rattle.ng_core_state.proofs.step.ChangedNodes.{stands_if}
use Rattle.ng_core_state.proofs.step.ends.rebind_end.Goals as goal

pub returns-clause-stands : goal.returns-clause-stands
returns-clause-stands g c = λ a node S here.
    stands_if c.args.state.now _ a c.args.at.now.node node (λ n. with_changed_hook n c.args.at.now.hook (bind_to c.args.new c.args.to.now.node c.args.to.now.hook)) c.rebind.result S here refl c.requires.home c.rebind.ensures.after refl refl refl
