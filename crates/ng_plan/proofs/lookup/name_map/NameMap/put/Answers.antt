-- A name that has no value goes where the search found none, and its value to the same place.
use Rattle.ng_plan.proofs.lookup.NameMaps.{map_inserted, searched_none, under_inserted}
use Rattle.ng_plan.proofs.lookup.name_map.NameMap.put.Goals as goal

pub unreachable-requires : goal.unreachable-requires
unreachable-requires g c =
    searched_none c.self.inside.names.items c.self.inside.values.items c.in_default.field-0 c.args.name c.self.invariant
    (rw c.deref.ensures.value at c.in_default.ensures.bound)
    (rw c.deref.ensures.value at c.in_default.ensures.position)
    (rw (← c.self.view_is) at c.requires.fresh)

pub invariant_of-self : goal.invariant_of-self
invariant_of-self g c =
    rw (c.in-Ok.ensures.items, c.in-Ok-insert.ensures.items)
    (map_inserted c.self.inside.names.items c.self.inside.values.items c.in-Err.at c.args.name c.args.value c.self.invariant
    (rw c.deref.ensures.value at c.in-Err.ensures.bound)
    (rw c.deref.ensures.value at c.in-Err.ensures.position))

pub returns : goal.returns
returns g c other =
    rw (c.in-Ok.ensures.items, c.in-Ok-insert.ensures.items, ← c.self.view_is)
    (under_inserted c.self.inside.names.items c.self.inside.values.items c.in-Err.at c.args.name c.args.value other c.self.invariant
    (rw c.deref.ensures.value at c.in-Err.ensures.bound)
    (rw c.deref.ensures.value at c.in-Err.ensures.position))
