use Rattle.std.proofs.Common.{refl}
use Rattle.ng_machine.specs.World.{without_hook}
use Rattle.ng_machine.proofs.Owed.{cut_kind}
use Rattle.ng_core_state.proofs.step.ChangedNodes.{stands_if}
use Rattle.ng_core_state.proofs.step.ends.leave_end.Goals as goal

pub returns-clause-stands : goal.returns-clause-stands
returns-clause-stands g c = λ a node S here.
    stands_if c.args.state.now _ a c.args.at.now.node node (λ n. without_hook n c.args.at.now.hook) c.leave.result S here (cut_kind node.kept c.args.at.now.hook) c.requires.home c.leave.ensures.after refl refl refl
