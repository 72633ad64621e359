-- A change of a hook leaves the name.
use Rattle.std.proofs.Common.{refl}
use Rattle.ng_machine.specs.World.{without_hook}
use Rattle.ng_topology.proofs.NameLemmas.{consistent_if}
use Rattle.ng_topology.proofs.graph.Graph.leave.Goals as goal

pub invariant_of-self : goal.invariant_of-self
invariant_of-self g c =
    consistent_if c.leave.result c.self.inside.places c.leave.new.self c.self.inside.stock c.self.inside.names c.args.at.now.node (λ node. without_hook node c.args.at.now.hook) (λ r. refl)
    c.leave.ensures.after c.self.invariant
