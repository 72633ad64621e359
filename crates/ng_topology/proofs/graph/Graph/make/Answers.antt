-- The name was free, and stands for the new node; where memory ran out the index is as it was.
use Rattle.std.proofs.Common.{ap}
use Rattle.ng_machine.specs.World.{node_id}
use Rattle.ng_topology.specs.NodeEntry.{NodeEntry}
use Rattle.ng_topology.proofs.NameLemmas.{consistent_make, free_under, same_entries}
use Rattle.ng_topology.proofs.graph.Graph.make.Goals as goal

pub invariant_of-self : goal.invariant_of-self
invariant_of-self g c = record {
  room = c.self.invariant.room;
  names = same_entries c.self.inside.places.nodes c.self.inside.names c.enter_name.new.index c.in_default.ensures.err c.self.invariant.names;
}

pub invariant_of-self-2 : goal.invariant_of-self-2
invariant_of-self-2 g c =
    let free = free_under c.args.self.now c.self.inside.names c.args.name c.requires (rw (← c.self.view_is) c.self.invariant.names) in
    consistent_make c.self.inside.places c.push.new.self c.self.inside.stock c.take.new.self c.self.inside.names c.enter_name.new.index
    (node_id c.len.result) c.blank.result.node c.args.name (ap (λ (e : NodeEntry). e.node.name) c.blank.ensures) (ap node_id c.len.ensures.nodes)
    c.push.ensures.nodes c.push.ensures.room c.in-Some.ensures.fewer free c.in-Ok.ensures.ok c.self.invariant
