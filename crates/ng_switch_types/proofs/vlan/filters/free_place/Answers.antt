-- What the search by number found.
use Rattle.std.proofs.Common.{rules}
use Rattle.std.proofs.lemmas.List.Sorted.{answers_always}
use Rattle.ng_machine.specs.declared.plan.VlanWay.{VlanWay}
use Rattle.ng_switch_types.proofs.vlan.Searching.{searched_at, searched_gap}
use Rattle.ng_switch_types.proofs.vlan.filters.free_place.Goals as goal

pub returns-in-Ok : goal.returns-in-Ok
returns-in-Ok c =
    let by_key = c.in-Ok.ensures.position (λ (f : VlanWay). f.vlan) (answers_always _ _ _ (λ f a r h called. search rules)) in
    searched_at c.args.filters.now c.args.filter.now.vlan c.in-Ok.field-0 c.in-Ok.ensures.bound by_key

pub returns-in-Err : goal.returns-in-Err
returns-in-Err c =
    let by_key = c.in-Err.ensures.position (λ (f : VlanWay). f.vlan) (answers_always _ _ _ (λ f a r h called. search rules)) in
    searched_gap c.args.filters.now c.args.filter.now c.in-Err.place c.requires c.in-Err.ensures.bound by_key
