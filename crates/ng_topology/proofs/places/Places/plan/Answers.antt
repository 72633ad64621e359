-- The entry at the place is the node of that number.
use Rattle.std.proofs.Common.{◌≡◌, get_or, map, Some, None}
use Rattle.std.specs.Arc.{arc_value}
use Rattle.std.specs.Prelude.{IsSome}
use Rattle.ng_machine.specs.World.{node_in}
use Rattle.ng_topology.specs.Topology.{node_of}
use Rattle.ng_topology.proofs.PlaceLemmas.{entry_node, places_same, found_there, nobody_there, plan_of_entry}
use Rattle.ng_topology.proofs.places.Places.plan.Goals as goal

pub unreachable-requires : goal.unreachable-requires
unreachable-requires g c =
    let there : IsSome (node_in (map node_of c.self.inside.entries.items) c.args.id) = rw (← c.self.view_is) at c.requires.there in
    nobody_there c.self.inside.entries.items c.args.id.0 c.index_mut.result.now there c.index_mut.ensures.value c.in-None.is

pub plan-requires-clause-planned : goal.plan-requires-clause-planned
plan-requires-clause-planned g c κs within =
    let there : IsSome (node_in (map node_of c.self.inside.entries.items) c.args.id) = rw (← c.self.view_is) at c.requires.there in
    let at : get_or c.self.inside.entries.items c.args.id.0 None ≡ Some c.in-Some.entry = found_there c.self.inside.entries.items c.args.id.0 c.in-Some.entry c.index_mut.result.now there c.index_mut.ensures.value c.in-Some.is in
    c.requires.planned c.in-Some.entry.node (rw (← c.self.view_is) (entry_node c.self.inside.entries.items c.args.id c.in-Some.entry at))

pub returns-clause-plan : goal.returns-clause-plan
returns-clause-plan g c =
    let there : IsSome (node_in (map node_of c.self.inside.entries.items) c.args.id) = rw (← c.self.view_is) at c.requires.there in
    let at : get_or c.self.inside.entries.items c.args.id.0 None ≡ Some c.in-Some.entry = found_there c.self.inside.entries.items c.args.id.0 c.in-Some.entry c.index_mut.result.now there c.index_mut.ensures.value c.in-Some.is in
    rw (← c.self.view_is) (plan_of_entry c.self.inside.entries.items c.args.id c.in-Some.entry at c.plan.result arc_value c.plan.ensures.plan)

pub returns-clause-same : goal.returns-clause-same
returns-clause-same g c =
    let there : IsSome (node_in (map node_of c.self.inside.entries.items) c.args.id) = rw (← c.self.view_is) at c.requires.there in
    let at : get_or c.self.inside.entries.items c.args.id.0 None ≡ Some c.in-Some.entry = found_there c.self.inside.entries.items c.args.id.0 c.in-Some.entry c.index_mut.result.now there c.index_mut.ensures.value c.in-Some.is in
    rw (← c.self.view_is) (places_same c.self.inside.entries.items c.args.id c.self.inside.room c.in-Some.entry c.plan.new.self at c.plan.ensures.same)
