use Rattle.std.proofs.Common.{refl, true}
use Rattle.ng_machine.specs.World.{new_hook, with_hook}
use Rattle.ng_machine.proofs.Owed.{made_kind}
use Rattle.ng_core_state.proofs.step.ChangedNodes.{stands_set}
use Rattle.ng_core_state.proofs.step.Stepping.{on_ok}
use Rattle.ng_core_state.proofs.step.ends.add_joined.Goals as goal

pub returns-clause-stands : goal.returns-clause-stands
returns-clause-stands g c = on_ok c.join.result
    (λ e. λ a node S here. stands_set c.args.state.now _ a c.args.at.now.node node (λ n. with_hook n (new_hook c.args.at.now.hook c.args.link c.args.to.now.node c.args.to.now.hook true)) S here (made_kind node.kept c.args.at.now.hook) c.requires.home e refl refl refl)
    c.join.ensures.ok
