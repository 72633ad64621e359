-- The entry at the place is the node of that number.
use Rattle.std.proofs.Common.{◌≡◌, ◌∙◌, get_or, map, sym, Some, None, ap}
use Rattle.std.specs.Prelude.{IsSome, is_some}
use Rattle.ng_machine.specs.World.{node_in, with_changed_hook, bind_to}
use Rattle.ng_topology.specs.Topology.{node_of, linked_hook_at}
use Rattle.ng_topology.proofs.PlaceLemmas.{entry_node, places_if, found_there, nobody_there}
use Rattle.ng_topology.proofs.places.Places.rebind.Goals as goal

pub unreachable-requires : goal.unreachable-requires
unreachable-requires g c =
    let there : IsSome (node_in (map node_of c.self.inside.entries.items) c.args.id) = rw (← c.self.view_is) at c.requires.there in
    nobody_there c.self.inside.entries.items c.args.id.0 c.index_mut.result.now there c.index_mut.ensures.value c.in-None.is

pub returns-clause-answer : goal.returns-clause-answer
returns-clause-answer g c =
    let there : IsSome (node_in (map node_of c.self.inside.entries.items) c.args.id) = rw (← c.self.view_is) at c.requires.there in
    let at : get_or c.self.inside.entries.items c.args.id.0 None ≡ Some c.in-Some.entry = found_there c.self.inside.entries.items c.args.id.0 c.in-Some.entry c.index_mut.result.now there c.index_mut.ensures.value c.in-Some.is in
    rw (← c.self.view_is) (c.rebind.ensures.answer ∙ ap (λ o. is_some (linked_hook_at o c.args.name.now c.args.old)) (sym (entry_node c.self.inside.entries.items c.args.id c.in-Some.entry at)))

pub returns-clause-after : goal.returns-clause-after
returns-clause-after g c =
    let there : IsSome (node_in (map node_of c.self.inside.entries.items) c.args.id) = rw (← c.self.view_is) at c.requires.there in
    let at : get_or c.self.inside.entries.items c.args.id.0 None ≡ Some c.in-Some.entry = found_there c.self.inside.entries.items c.args.id.0 c.in-Some.entry c.index_mut.result.now there c.index_mut.ensures.value c.in-Some.is in
    rw (← c.self.view_is) (places_if c.rebind.result c.self.inside.entries.items c.args.id c.self.inside.room c.in-Some.entry c.rebind.new.self (λ node. with_changed_hook node c.args.name.now (bind_to c.args.new c.args.peer.node c.args.peer.hook)) at c.rebind.ensures.after)
