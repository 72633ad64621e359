-- A node without its hooks keeps its name.
use Rattle.std.proofs.Common.{ap, refl}
use Rattle.ng_machine.specs.World.{without_hooks}
use Rattle.ng_topology.specs.NodePlaces.{NodePlaces}
use Rattle.ng_topology.proofs.NameLemmas.{consistent_change}
use Rattle.ng_topology.proofs.graph.Graph.clear.Goals as goal

pub invariant_of-self : goal.invariant_of-self
invariant_of-self g c =
    consistent_change c.self.inside.places c.clear.new.self c.self.inside.stock c.self.inside.names c.args.id without_hooks (λ r. refl)
    (ap (λ (p : NodePlaces). p.nodes) c.clear.ensures) (ap (λ (p : NodePlaces). p.room) c.clear.ensures) c.self.invariant
