-- The name goes with the node.
use Rattle.std.proofs.Common.{ap}
use Rattle.ng_topology.specs.NodePlaces.{NodePlaces}
use Rattle.ng_topology.proofs.NameLemmas.{consistent_retire}
use Rattle.ng_topology.proofs.graph.Graph.retire.Goals as goal

pub invariant_of-self : goal.invariant_of-self
invariant_of-self g c =
    consistent_retire c.self.inside.places c.retire-node.new.self c.self.inside.stock c.self.inside.names c.forget_name.new.index c.args.id c.own_name-name.result (rw (← c.self.view_is) at c.own_name-name.ensures)
    (ap (λ (p : NodePlaces). p.nodes) c.retire-node.ensures.after) (ap (λ (p : NodePlaces). p.room) c.retire-node.ensures.after) c.forget_name.ensures c.self.invariant
