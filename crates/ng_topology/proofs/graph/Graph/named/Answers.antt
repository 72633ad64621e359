-- The index has each node under its name.
use Rattle.std.proofs.Common.{◌∙◌}
use Rattle.ng_topology.proofs.NameLemmas.{find_by_index}
use Rattle.ng_topology.proofs.graph.Graph.named.Goals as goal

pub returns : goal.returns
returns g c = rw (← c.self.view_is) (c.copied.ensures ∙ c.get.ensures.value ∙ find_by_index c.self.inside.places.nodes c.self.inside.names c.args.name.now c.self.invariant.names)
