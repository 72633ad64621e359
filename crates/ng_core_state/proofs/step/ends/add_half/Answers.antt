use Rattle.std.proofs.Common.{refl}
use Rattle.ng_core_state.proofs.step.ChangedNodes.{stands_half}
use Rattle.ng_core_state.proofs.step.Stepping.{on_ok}
use Rattle.ng_core_state.proofs.step.ends.add_half.Goals as goal

pub returns-clause-stands : goal.returns-clause-stands
returns-clause-stands g c = on_ok c.add_half.result
    (λ e. λ a node S here. stands_half c.args.state.now _ a c.args.at.now c.args.to.now node S here c.requires.home e refl refl refl)
    c.add_half.ensures.ok
