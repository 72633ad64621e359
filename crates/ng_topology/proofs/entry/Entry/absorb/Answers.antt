-- What is counted leaves the kind, the hooks and the plan.
use Rattle.std.specs.Arc.{arc_value}
use Rattle.std.specs.Option.{option_map}
use Rattle.ng_topology.proofs.NodeLemmas.{consistent_absorbed}
use Rattle.ng_topology.proofs.entry.Entry.absorb.Goals as goal

pub invariant_of-self : goal.invariant_of-self
invariant_of-self g c =
    consistent_absorbed c.self.inside.kind (g.B.Node.state c.in-Some.node) (g.B.Node.state c.absorb.new.self) c.self.inside.hooks (option_map arc_value c.self.inside.plan) c.args.counts.now
    (rw c.in-Some.is at c.self.invariant) c.absorb.ensures
