-- A new hook leaves the name.
use Rattle.std.proofs.Common.{ap, refl}
use Rattle.ng_machine.specs.World.{with_hook}
use Rattle.ng_topology.specs.NodePlaces.{NodePlaces}
use Rattle.ng_topology.proofs.NameLemmas.{consistent_change}
use Rattle.ng_topology.proofs.graph.Graph.join.Goals as goal

pub invariant_of-self-2 : goal.invariant_of-self-2
invariant_of-self-2 g c =
    consistent_change c.self.inside.places c.add.new.self c.self.inside.stock c.self.inside.names c.args.at.now.node (λ node. with_hook node c.hook_to-hook.result) (λ r. refl)
    (ap (λ (p : NodePlaces). p.nodes) c.in_ok-add.ensures.ok) (ap (λ (p : NodePlaces). p.room) c.in_ok-add.ensures.ok) c.self.invariant
