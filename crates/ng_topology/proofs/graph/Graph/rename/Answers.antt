-- The name was free, and stands for this node now.
use Rattle.std.proofs.Common.{ap, Some}
use Rattle.ng_topology.specs.NodePlaces.{NodePlaces}
use Rattle.ng_topology.proofs.NameLemmas.{consistent_rename, free_under, same_entries}
use Rattle.ng_topology.proofs.graph.Graph.rename.Goals as goal

pub invariant_of-self : goal.invariant_of-self
invariant_of-self g c = record {
  room = c.self.invariant.room;
  names = same_entries c.self.inside.places.nodes c.self.inside.names c.enter_name.new.index c.in_err-enter_name.ensures.err c.self.invariant.names;
}

pub invariant_of-self-2 : goal.invariant_of-self-2
invariant_of-self-2 g c =
    let free = free_under c.args.self.now c.self.inside.names (Some c.args.name) c.requires.free (rw (← c.self.view_is) c.self.invariant.names) in
    consistent_rename c.self.inside.places c.rename.new.self c.self.inside.stock c.self.inside.names c.enter_name.new.index c.args.id c.args.name
    (rw (← c.self.view_is) at c.requires.there) (rw (← c.self.view_is) at c.requires.unnamed)
    (ap (λ (p : NodePlaces). p.nodes) c.rename.ensures) (ap (λ (p : NodePlaces). p.room) c.rename.ensures) free c.in_ok-enter_name.ensures.ok c.self.invariant
