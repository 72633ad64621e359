-- The box has the state that it had when it was lent.
use Rattle.std.specs.Arc.{arc_value}
use Rattle.std.specs.Option.{option_map}
use Rattle.std.specs.Prelude.{is_some}
use Rattle.ng_topology.specs.NodeEntry.{state_in}
use Rattle.ng_topology.proofs.NodeLemmas.{consistent_restored}
use Rattle.ng_topology.proofs.entry.Entry.restore.Goals as goal

pub invariant_of-self : goal.invariant_of-self
invariant_of-self g c =
    consistent_restored c.self.inside.kind (state_in g.B.Node.state c.self.inside.home c.self.inside.was.value) (g.B.Node.state c.args.node) c.self.inside.hooks (is_some c.self.inside.home) (option_map arc_value c.self.inside.plan)
    c.self.invariant (rw (← c.self.view_is) at c.requires.same)
