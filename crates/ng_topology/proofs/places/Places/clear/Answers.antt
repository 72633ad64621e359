-- The entry at the place is the node of that number.
use Rattle.std.proofs.Common.{◌≡◌, ◌∙◌, true, false, get_or, map, sym, Some, None}
use Rattle.ng_machine.specs.World.{without_hooks}
use Rattle.ng_topology.specs.Topology.{home_of}
use Rattle.ng_topology.proofs.PlaceLemmas.{entry_node, entry_home, places_change, found_home, nobody_home}
use Rattle.ng_topology.proofs.places.Places.clear.Goals as goal

pub unreachable-requires : goal.unreachable-requires
unreachable-requires g c =
    let home : get_or (map home_of c.self.inside.entries.items) c.args.id.0 false ≡ true = rw (← c.self.view_is) at c.requires.home in
    nobody_home c.self.inside.entries.items c.args.id.0 c.index_mut.result.now home c.index_mut.ensures.value c.in-None.is

pub clear-requires-clause-home : goal.clear-requires-clause-home
clear-requires-clause-home g c κs within =
    let home : get_or (map home_of c.self.inside.entries.items) c.args.id.0 false ≡ true = rw (← c.self.view_is) at c.requires.home in
    let at : get_or c.self.inside.entries.items c.args.id.0 None ≡ Some c.in-Some.entry = found_home c.self.inside.entries.items c.args.id.0 c.in-Some.entry c.index_mut.result.now home c.index_mut.ensures.value c.in-Some.is in
    sym (entry_home c.self.inside.entries.items c.args.id c.in-Some.entry at) ∙ home

pub returns : goal.returns
returns g c =
    let home : get_or (map home_of c.self.inside.entries.items) c.args.id.0 false ≡ true = rw (← c.self.view_is) at c.requires.home in
    let at : get_or c.self.inside.entries.items c.args.id.0 None ≡ Some c.in-Some.entry = found_home c.self.inside.entries.items c.args.id.0 c.in-Some.entry c.index_mut.result.now home c.index_mut.ensures.value c.in-Some.is in
    rw (← c.self.view_is) (places_change c.self.inside.entries.items c.args.id c.self.inside.room c.in-Some.entry c.clear.new.self without_hooks at c.clear.ensures)
