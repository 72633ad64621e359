use Rattle.std.proofs.Common.{refl, rules}
use Rattle.ng_machine.specs.World.{hook_names, without_hooks}
use Rattle.ng_machine.proofs.Owed.{cut_all_kind}
use Rattle.ng_core_state.proofs.step.ChangedNodes.{stands_set}
use Rattle.ng_core_apply.proofs.removal.staying.clear_hooks.Goals as goal

pub returns-clause-stands : goal.returns-clause-stands
returns-clause-stands g c = λ a node S here.
    stands_set c.args.state.now _ a c.args.id node without_hooks S here (cut_all_kind node.kept (hook_names node)) c.requires.home (search rules) refl refl refl
