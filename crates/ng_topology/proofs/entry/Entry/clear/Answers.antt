-- The box has no hooks, and the plan goes.
use Rattle.std.specs.Arc.{arc_value}
use Rattle.std.specs.Option.{option_map}
use Rattle.ng_topology.proofs.CutLemmas.{consistent_cleared}
use Rattle.ng_topology.proofs.entry.Entry.clear.Goals as goal

pub invariant_of-self : goal.invariant_of-self
invariant_of-self g c =
    consistent_cleared c.self.inside.kind (g.B.Node.state c.in-Some.node) (g.B.Node.state c.cut_all.new.node) c.self.inside.hooks c.clear.new.self
    (option_map arc_value c.self.inside.plan) (rw c.in-Some.is at c.self.invariant) c.cut_all.ensures c.clear.ensures
