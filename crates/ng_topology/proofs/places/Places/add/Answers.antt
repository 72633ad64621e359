-- The entry at the place is the node of that number.
use Rattle.std.proofs.Common.{◌≡◌, ◌∙◌, true, false, get_or, map, sym, Some, None}
use Rattle.std.proofs.lemmas.Result.{on_ok_weaker, on_err_weaker}
use Rattle.ng_machine.specs.World.{with_hook}
use Rattle.ng_topology.specs.Topology.{home_of}
use Rattle.ng_topology.proofs.PlaceLemmas.{entry_node, entry_home, places_change, places_same, found_home, nobody_home, is_linked_after, undone}
use Rattle.ng_topology.proofs.places.Places.add.Goals as goal

pub unreachable-requires : goal.unreachable-requires
unreachable-requires g c =
    let home : get_or (map home_of c.self.inside.entries.items) c.args.id.0 false ≡ true = rw (← c.self.view_is) at c.requires.home in
    nobody_home c.self.inside.entries.items c.args.id.0 c.index_mut.result.now home c.index_mut.ensures.value c.in-None.is

pub add-requires-clause-home : goal.add-requires-clause-home
add-requires-clause-home g c κs within =
    let home : get_or (map home_of c.self.inside.entries.items) c.args.id.0 false ≡ true = rw (← c.self.view_is) at c.requires.home in
    let at : get_or c.self.inside.entries.items c.args.id.0 None ≡ Some c.in-Some.entry = found_home c.self.inside.entries.items c.args.id.0 c.in-Some.entry c.index_mut.result.now home c.index_mut.ensures.value c.in-Some.is in
    sym (entry_home c.self.inside.entries.items c.args.id c.in-Some.entry at) ∙ home

pub add-requires-clause-takes : goal.add-requires-clause-takes
add-requires-clause-takes g c κs within =
    let home : get_or (map home_of c.self.inside.entries.items) c.args.id.0 false ≡ true = rw (← c.self.view_is) at c.requires.home in
    let at : get_or c.self.inside.entries.items c.args.id.0 None ≡ Some c.in-Some.entry = found_home c.self.inside.entries.items c.args.id.0 c.in-Some.entry c.index_mut.result.now home c.index_mut.ensures.value c.in-Some.is in
    c.requires.takes c.in-Some.entry.node (rw (← c.self.view_is) (entry_node c.self.inside.entries.items c.args.id c.in-Some.entry at))

pub returns-clause-ok : goal.returns-clause-ok
returns-clause-ok g c =
    let home : get_or (map home_of c.self.inside.entries.items) c.args.id.0 false ≡ true = rw (← c.self.view_is) at c.requires.home in
    let at : get_or c.self.inside.entries.items c.args.id.0 None ≡ Some c.in-Some.entry = found_home c.self.inside.entries.items c.args.id.0 c.in-Some.entry c.index_mut.result.now home c.index_mut.ensures.value c.in-Some.is in
    on_ok_weaker c.add.result (λ h. rw (← c.self.view_is) (places_change c.self.inside.entries.items c.args.id c.self.inside.room c.in-Some.entry c.add.new.self (λ node. with_hook node c.args.hook) at h)) c.add.ensures.ok

pub returns-clause-linked : goal.returns-clause-linked
returns-clause-linked g c =
    let home : get_or (map home_of c.self.inside.entries.items) c.args.id.0 false ≡ true = rw (← c.self.view_is) at c.requires.home in
    let at : get_or c.self.inside.entries.items c.args.id.0 None ≡ Some c.in-Some.entry = found_home c.self.inside.entries.items c.args.id.0 c.in-Some.entry c.index_mut.result.now home c.index_mut.ensures.value c.in-Some.is in
    on_ok_weaker c.add.result (λ h. is_linked_after c.self.inside.entries.items c.args.id c.in-Some.entry c.add.new.self c.args.hook at h) c.add.ensures.ok

pub returns-clause-undone : goal.returns-clause-undone
returns-clause-undone g c =
    let home : get_or (map home_of c.self.inside.entries.items) c.args.id.0 false ≡ true = rw (← c.self.view_is) at c.requires.home in
    let at : get_or c.self.inside.entries.items c.args.id.0 None ≡ Some c.in-Some.entry = found_home c.self.inside.entries.items c.args.id.0 c.in-Some.entry c.index_mut.result.now home c.index_mut.ensures.value c.in-Some.is in
    rw (← c.self.view_is) (undone c.self.inside.entries.items c.args.id c.in-Some.entry c.add.new.self c.args.hook at c.add.result c.add.ensures.undone c.add.ensures.ok)

pub returns-clause-err : goal.returns-clause-err
returns-clause-err g c =
    let home : get_or (map home_of c.self.inside.entries.items) c.args.id.0 false ≡ true = rw (← c.self.view_is) at c.requires.home in
    let at : get_or c.self.inside.entries.items c.args.id.0 None ≡ Some c.in-Some.entry = found_home c.self.inside.entries.items c.args.id.0 c.in-Some.entry c.index_mut.result.now home c.index_mut.ensures.value c.in-Some.is in
    on_err_weaker c.add.result (λ h. rw (← c.self.view_is) (places_same c.self.inside.entries.items c.args.id c.self.inside.room c.in-Some.entry c.add.new.self at h)) c.add.ensures.err
