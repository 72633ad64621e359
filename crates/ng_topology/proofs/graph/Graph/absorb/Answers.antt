-- What is counted leaves the name.
use Rattle.std.proofs.Common.{ap, refl}
use Rattle.ng_machine.specs.Case.{absorb}
use Rattle.ng_topology.specs.NodePlaces.{NodePlaces}
use Rattle.ng_topology.specs.Topology.{with_kept}
use Rattle.ng_topology.proofs.NameLemmas.{consistent_change}
use Rattle.ng_topology.proofs.graph.Graph.absorb.Goals as goal

pub invariant_of-self : goal.invariant_of-self
invariant_of-self g c =
    consistent_change c.self.inside.places c.absorb.new.self c.self.inside.stock c.self.inside.names c.args.id (λ node. with_kept (absorb node.kept c.args.counts.now) node) (λ r. refl)
    (ap (λ (p : NodePlaces). p.nodes) c.absorb.ensures) (ap (λ (p : NodePlaces). p.room) c.absorb.ensures) c.self.invariant
