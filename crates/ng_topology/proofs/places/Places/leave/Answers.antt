-- The entry at the place is the node of that number.
use Rattle.std.proofs.Common.{◌≡◌, ◌∙◌, true, false, get_or, map, sym, Some, None, ap}
use Rattle.std.specs.Prelude.{is_some}
use Rattle.ng_machine.specs.World.{without_hook}
use Rattle.ng_topology.specs.Topology.{home_of, linked_hook_at}
use Rattle.ng_topology.proofs.PlaceLemmas.{entry_node, entry_home, places_if, found_home, nobody_home}
use Rattle.ng_topology.proofs.places.Places.leave.Goals as goal

pub unreachable-requires : goal.unreachable-requires
unreachable-requires g c =
    let home : get_or (map home_of c.self.inside.entries.items) c.args.id.0 false ≡ true = rw (← c.self.view_is) at c.requires.home in
    nobody_home c.self.inside.entries.items c.args.id.0 c.index_mut.result.now home c.index_mut.ensures.value c.in-None.is

pub leave-requires-clause-home : goal.leave-requires-clause-home
leave-requires-clause-home g c κs within =
    let home : get_or (map home_of c.self.inside.entries.items) c.args.id.0 false ≡ true = rw (← c.self.view_is) at c.requires.home in
    let at : get_or c.self.inside.entries.items c.args.id.0 None ≡ Some c.in-Some.entry = found_home c.self.inside.entries.items c.args.id.0 c.in-Some.entry c.index_mut.result.now home c.index_mut.ensures.value c.in-Some.is in
    sym (entry_home c.self.inside.entries.items c.args.id c.in-Some.entry at) ∙ home

pub returns-clause-answer : goal.returns-clause-answer
returns-clause-answer g c =
    let home : get_or (map home_of c.self.inside.entries.items) c.args.id.0 false ≡ true = rw (← c.self.view_is) at c.requires.home in
    let at : get_or c.self.inside.entries.items c.args.id.0 None ≡ Some c.in-Some.entry = found_home c.self.inside.entries.items c.args.id.0 c.in-Some.entry c.index_mut.result.now home c.index_mut.ensures.value c.in-Some.is in
    rw (← c.self.view_is) (c.leave.ensures.answer ∙ ap (λ o. is_some (linked_hook_at o c.args.name.now c.args.link)) (sym (entry_node c.self.inside.entries.items c.args.id c.in-Some.entry at)))

pub returns-clause-after : goal.returns-clause-after
returns-clause-after g c =
    let home : get_or (map home_of c.self.inside.entries.items) c.args.id.0 false ≡ true = rw (← c.self.view_is) at c.requires.home in
    let at : get_or c.self.inside.entries.items c.args.id.0 None ≡ Some c.in-Some.entry = found_home c.self.inside.entries.items c.args.id.0 c.in-Some.entry c.index_mut.result.now home c.index_mut.ensures.value c.in-Some.is in
    rw (← c.self.view_is) (places_if c.leave.result c.self.inside.entries.items c.args.id c.self.inside.room c.in-Some.entry c.leave.new.self (λ node. without_hook node c.args.name.now) at c.leave.ensures.after)
