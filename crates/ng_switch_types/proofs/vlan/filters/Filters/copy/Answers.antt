-- The copy is in order, and no two of it are of one hook, as the filters are.
use Rattle.std.proofs.Common.{subst, sym, ◌∙◌}
use Rattle.ng_plan.specs.lookup.Filters.{AreApart, IsByNumber}
use Rattle.ng_switch_types.proofs.vlan.Apart.{ascending}
use Rattle.ng_switch_types.proofs.vlan.filters.Filters.copy.Goals as goal

pub with_numbers-requires-clause-ascending : goal.with_numbers-requires-clause-ascending
with_numbers-requires-clause-ascending c =
    let copied = c.from_vec-list.ensures ∙ c.in_ok-from_slice.ensures.items ∙ c.deref.ensures.value in
    subst IsByNumber (sym copied) (ascending c.self.inside.list.items c.self.invariant.in_order)

pub with_numbers-requires-clause-apart : goal.with_numbers-requires-clause-apart
with_numbers-requires-clause-apart c =
    let copied = c.from_vec-list.ensures ∙ c.in_ok-from_slice.ensures.items ∙ c.deref.ensures.value in
    subst AreApart (sym copied) c.self.invariant.apart
