-- A change of a hook leaves the name.
use Rattle.std.proofs.Common.{refl}
use Rattle.ng_machine.specs.World.{with_changed_hook, bind_to}
use Rattle.ng_topology.proofs.NameLemmas.{consistent_if}
use Rattle.ng_topology.proofs.graph.Graph.rebind.Goals as goal

pub invariant_of-self : goal.invariant_of-self
invariant_of-self g c =
    consistent_if c.rebind.result c.self.inside.places c.rebind.new.self c.self.inside.stock c.self.inside.names c.args.at.now.node (λ node. with_changed_hook node c.args.at.now.hook (bind_to c.args.new c.args.to.now.node c.args.to.now.hook)) (λ r. refl)
    c.rebind.ensures.after c.self.invariant
