-- A name is found among a few, or by a binary search of names in order, and its value stands at the same place.
use Rattle.std.proofs.Common.{◌≡◌, length, rules, sym, ◌∙◌}
use Rattle.ng_plan.proofs.lookup.NameMaps.{placed_at, placed_below, placed_nowhere, searched_at, searched_gap, under_absent}
use Rattle.ng_plan.proofs.lookup.name_map.NameMap.get.Goals as goal

pub index-requires : goal.index-requires
index-requires g c =
    let long : c.self.inside.values.len ≡ length c.self.inside.values.items = search rules in
    rw long
    (placed_below c.self.inside.names.items c.self.inside.values.items c.in-Some.at c.args.name.now c.self.invariant
    (rw c.deref.ensures.value at (sym c.place_among.ensures ∙ c.in-Some.is)))

pub returns-in-Some : goal.returns-in-Some
returns-in-Some g c =
    rw (← c.self.view_is)
    (sym (placed_at c.self.inside.names.items c.self.inside.values.items c.in-Some.at c.args.name.now c.index.result.now c.self.invariant
    (rw c.deref.ensures.value at (sym c.place_among.ensures ∙ c.in-Some.is))
    c.index.ensures))

pub returns-in-None : goal.returns-in-None
returns-in-None g c =
    rw (← c.self.view_is)
    (sym (placed_nowhere c.self.inside.names.items c.self.inside.values.items c.args.name.now
    (rw c.deref.ensures.value at (sym c.place_among.ensures ∙ c.in-None.is))))

pub returns-in-Ok : goal.returns-in-Ok
returns-in-Ok g c =
    rw (← c.self.view_is)
    (sym (searched_at c.self.inside.names.items c.self.inside.values.items c.in-Ok.at c.args.name.now c.index-in-Ok.result.now c.self.invariant
    (rw c.deref-2.ensures.value at c.in-Ok.ensures.bound)
    (rw c.deref-2.ensures.value at c.in-Ok.ensures.ok)
    c.index-in-Ok.ensures))

pub returns-in-Err : goal.returns-in-Err
returns-in-Err g c =
    rw (← c.self.view_is)
    (sym (under_absent c.self.inside.names.items c.self.inside.values.items c.args.name.now
    (searched_gap c.self.inside.names.items c.self.inside.values.items c.in-Err.field-0 c.args.name.now c.self.invariant
    (rw c.deref-2.ensures.value at c.in-Err.ensures.bound)
    (rw c.deref-2.ensures.value at c.in-Err.ensures.position))))
