-- A box that comes home leaves the name.
use Rattle.std.proofs.Common.{ap, refl}
use Rattle.ng_topology.specs.NodePlaces.{NodePlaces}
use Rattle.ng_topology.specs.Topology.{with_kept}
use Rattle.ng_topology.proofs.NameLemmas.{consistent_change}
use Rattle.ng_topology.proofs.graph.Graph.restore.Goals as goal

pub invariant_of-self : goal.invariant_of-self
invariant_of-self g c =
    consistent_change c.self.inside.places c.restore.new.self c.self.inside.stock c.self.inside.names c.args.id (with_kept (g.B.Node.state c.args.node).kept) (λ r. refl)
    (ap (λ (p : NodePlaces). p.nodes) c.restore.ensures) (ap (λ (p : NodePlaces). p.room) c.restore.ensures) c.self.invariant
