-- The name goes from the place where it was found, and its value from the same place.
use Rattle.ng_plan.proofs.lookup.NameMaps.{map_removed, searched_gap, under_left, under_removed}
use Rattle.ng_plan.proofs.lookup.name_map.NameMap.remove.Goals as goal

pub invariant_of-self : goal.invariant_of-self
invariant_of-self g c =
    rw (c.remove-name.ensures.items, c.remove-value.ensures.items)
    (map_removed c.self.inside.names.items c.self.inside.values.items c.in-Ok.at c.self.invariant
    (rw c.deref.ensures.value at c.in-Ok.ensures.bound))

pub returns-in-Ok : goal.returns-in-Ok
returns-in-Ok g c other =
    rw (c.remove-name.ensures.items, c.remove-value.ensures.items, ← c.self.view_is)
    (under_removed c.self.inside.names.items c.self.inside.values.items c.in-Ok.at c.args.name.now other c.self.invariant
    (rw c.deref.ensures.value at c.in-Ok.ensures.bound)
    (rw c.deref.ensures.value at c.in-Ok.ensures.ok))

pub returns-in_default : goal.returns-in_default
returns-in_default g c other =
    rw (← c.self.view_is)
    (under_left c.self.inside.names.items c.self.inside.values.items c.args.name.now other
    (searched_gap c.self.inside.names.items c.self.inside.values.items c.in_default.field-0 c.args.name.now c.self.invariant
    (rw c.deref.ensures.value at c.in_default.ensures.bound)
    (rw c.deref.ensures.value at c.in_default.ensures.position)))
