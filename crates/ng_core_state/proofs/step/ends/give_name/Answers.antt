use Rattle.std.proofs.Common.{refl, Some}
use Rattle.ng_machine.specs.World.{NodeRecord}
use Rattle.ng_core_state.proofs.step.ChangedNodes.{stands_set}
use Rattle.ng_core_state.proofs.step.Stepping.{on_ok}
use Rattle.ng_core_state.proofs.step.ends.give_name.Goals as goal

pub returns-clause-stands : goal.returns-clause-stands
returns-clause-stands g c = on_ok c.rename.result
    (λ e. λ a node S here. stands_set c.args.state.now _ a c.args.id node (λ (n : NodeRecord). record n { name = Some c.args.name }) S here refl c.requires.home e refl refl refl)
    c.rename.ensures.ok
