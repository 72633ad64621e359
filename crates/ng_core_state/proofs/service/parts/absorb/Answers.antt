use Rattle.std.proofs.Common.{refl}
use Rattle.ng_machine.specs.Case.{absorb}
use Rattle.ng_topology.specs.Topology.{with_kept}
use Rattle.ng_topology.proofs.NodeLemmas.{absorb_kind}
use Rattle.ng_core_state.proofs.service.NodesChanged.{stands_changed}
use Rattle.ng_core_state.proofs.service.parts.absorb.Goals as goal

pub returns-clause-stands : goal.returns-clause-stands
returns-clause-stands g c = λ a node S here.
    stands_changed c.args.state.now (record c.args.state.now { graph = c.absorb.new.self }) a c.args.at node (λ n. with_kept (absorb n.kept c.args.counts.now) n) S here (absorb_kind node.kept c.args.counts.now) c.requires.home c.absorb.ensures refl refl refl
