-- Nothing stands at the place any more.
use Rattle.std.proofs.Common.{◌≡◌, ◌∙◌, true, false, get_or, map, Some, None, ap, set, sym}
use Rattle.ng_machine.specs.World.{state_of}
use Rattle.ng_topology.specs.NodePlaces.{places_as}
use Rattle.ng_topology.specs.Topology.{home_of}
use Rattle.ng_topology.proofs.PlaceLemmas.{found_home, only_node, places_retire}
use Rattle.ng_topology.proofs.places.Places.retire.Goals as goal

pub returns-clause-after : goal.returns-clause-after
returns-clause-after g c =
    rw (← c.self.view_is) (ap (λ o. places_as (set c.self.inside.entries.items c.args.id.0 o) c.self.inside.room) c.replace.ensures.after ∙ places_retire c.self.inside.entries.items c.args.id c.self.inside.room)

pub returns-clause-state : goal.returns-clause-state
returns-clause-state g c =
    let home : get_or (map home_of c.self.inside.entries.items) c.args.id.0 false ≡ true = rw (← c.self.view_is) at c.requires.home in
    let at : get_or c.self.inside.entries.items c.args.id.0 None ≡ Some c.in-Some.entry = found_home c.self.inside.entries.items c.args.id.0 c.in-Some.entry c.index_mut.result.now home c.index_mut.ensures.value (sym c.replace.ensures.value ∙ c.in-Some.is) in
    rw (← c.self.view_is) (λ node is. c.into_node.ensures ∙ ap state_of (only_node c.self.inside.entries.items c.args.id c.in-Some.entry node at is))
