-- A change of a hook leaves the name.
use Rattle.std.proofs.Common.{refl}
use Rattle.ng_machine.specs.World.{with_changed_hook, settle_hook}
use Rattle.ng_topology.proofs.NameLemmas.{consistent_if}
use Rattle.ng_topology.proofs.graph.Graph.settle.Goals as goal

pub invariant_of-self : goal.invariant_of-self
invariant_of-self g c =
    consistent_if c.settle.result c.self.inside.places c.settle.new.self c.self.inside.stock c.self.inside.names c.args.at.now.node (λ node. with_changed_hook node c.args.at.now.hook settle_hook) (λ r. refl)
    c.settle.ensures.after c.self.invariant
