-- What the search by number found.
use Rattle.std.proofs.Common.{rules, ◌∙◌}
use Rattle.std.proofs.lemmas.List.Sorted.{answers_always}
use Rattle.ng_machine.specs.declared.plan.VlanWay.{VlanWay}
use Rattle.ng_plan.proofs.lookup.Apart.{searched_nothing, searched_out}
use Rattle.ng_switch_types.proofs.vlan.Apart.{ascending}
use Rattle.ng_switch_types.proofs.vlan.filters.take_out.Goals as goal

pub returns-in-Ok : goal.returns-in-Ok
returns-in-Ok c =
    let by_key = c.in-Ok.ensures.position (λ (f : VlanWay). f.vlan) (answers_always _ _ _ (λ f a r h called. search rules)) in
    c.remove-filter.ensures.items
    ∙ searched_out c.args.filters.now.items c.args.number c.in-Ok.place (ascending c.args.filters.now.items c.requires)
    (rw c.deref.ensures.value at c.in-Ok.ensures.bound)
    (rw c.deref.ensures.value at by_key)

pub returns-in_default : goal.returns-in_default
returns-in_default c =
    let by_key = c.in_default.ensures.position (λ (f : VlanWay). f.vlan) (answers_always _ _ _ (λ f a r h called. search rules)) in
    searched_nothing c.args.filters.now.items c.args.number c.in_default.field-0 (ascending c.args.filters.now.items c.requires)
    (rw c.deref.ensures.value at c.in_default.ensures.bound)
    (rw c.deref.ensures.value at by_key)
