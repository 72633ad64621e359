-- The index has the name exactly where the list has it, and the number that it had is found in the list.
use Rattle.std.proofs.Common.{sym, ◌∙◌}
use Rattle.ng_base.proofs.NumberedNames.{has_in_index, once_removed, place_missed}
use Rattle.ng_base.proofs.name_list.NameList.remove_once.Goals as goal

pub returns-in_default-clause-found : goal.returns-in_default-clause-found
returns-in_default-clause-found c =
    rw (← c.self.view_is)
    (sym c.in_default.ensures.removed.0
    ∙ has_in_index c.self.inside.items.items c.self.inside.numbers.items c.self.inside.next c.self.inside.index c.args.name.now c.self.invariant)

pub unreachable-requires : goal.unreachable-requires
unreachable-requires c =
    place_missed c.self.inside.items.items c.self.inside.numbers.items c.self.inside.next c.self.inside.index c.remove_once.new.self c.args.name.now
    c.in-Some.number c.in_default-binary_search.field-0 c.self.invariant c.in-Some.ensures.removed
    (rw c.deref.ensures.value at c.in_default-binary_search.ensures.position)

pub invariant_of-self-2 : goal.invariant_of-self-2
invariant_of-self-2 c =
    let left = once_removed c.self.inside.items.items c.self.inside.numbers.items c.self.inside.next c.self.inside.index c.remove_once.new.self
    c.args.name.now c.in-Some.number c.in-Ok.at c.self.invariant c.in-Some.ensures.removed c.in-Some.ensures.numbered
    (rw c.deref.ensures.value at c.in-Ok.ensures.ok) in
    rw (c.remove-name.ensures.items, c.remove-number.ensures.items) left.indexed

pub returns-clause-found : goal.returns-clause-found
returns-clause-found c =
    let left = once_removed c.self.inside.items.items c.self.inside.numbers.items c.self.inside.next c.self.inside.index c.remove_once.new.self
    c.args.name.now c.in-Some.number c.in-Ok.at c.self.invariant c.in-Some.ensures.removed c.in-Some.ensures.numbered
    (rw c.deref.ensures.value at c.in-Ok.ensures.ok) in
    rw (← c.self.view_is) left.was_there

pub returns-clause-others : goal.returns-clause-others
returns-clause-others c =
    let left = once_removed c.self.inside.items.items c.self.inside.numbers.items c.self.inside.next c.self.inside.index c.remove_once.new.self
    c.args.name.now c.in-Some.number c.in-Ok.at c.self.invariant c.in-Some.ensures.removed c.in-Some.ensures.numbered
    (rw c.deref.ensures.value at c.in-Ok.ensures.ok) in
    rw (c.remove-name.ensures.items, ← c.self.view_is) left.others
