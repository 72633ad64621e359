-- The box has one hook less, and the plan goes.
use Rattle.std.specs.Arc.{arc_value}
use Rattle.std.specs.Option.{option_map}
use Rattle.ng_topology.proofs.NodeLemmas.{consistent_cut}
use Rattle.ng_topology.proofs.entry.Entry.leave.Goals as goal

pub invariant_of-self : goal.invariant_of-self
invariant_of-self g c =
    consistent_cut c.self.inside.kind (g.B.Node.state c.in-Some.node) (g.B.Node.state c.cut.new.self) c.self.inside.hooks c.remove.new.self
    (option_map arc_value c.self.inside.plan) c.args.name.now (rw c.in-Some.is at c.self.invariant) c.cut.ensures c.remove.ensures
