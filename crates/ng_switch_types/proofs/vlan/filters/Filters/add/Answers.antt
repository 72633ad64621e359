-- The filter goes to its place, and its number under its hook, which had none.
use Rattle.std.proofs.Common.{◌≡◌, None, ap, is_some, ◌∙◌}
use Rattle.ng_machine.specs.kinds.Vlan.{filter_of_hook}
use Rattle.ng_switch_types.proofs.vlan.Apart.{is_absent, kept_put}
use Rattle.ng_switch_types.proofs.vlan.filters.Filters.add.Goals as goal

pub invariant_of-self-2 : goal.invariant_of-self-2
invariant_of-self-2 c =
    let filters = c.self.inside.list.items in
    let alone : filter_of_hook c.args.filter.hook filters ≡ None
    = is_absent (filter_of_hook c.args.filter.hook filters) (ap (λ fs. is_some (filter_of_hook c.args.filter.hook fs)) c.self.view_is ∙ c.requires.alone) in
    rw c.in_ok-insert.ensures.items
    (kept_put c.args.filter filters c.in-Some.place c.self.inside.numbers c.reserve.new.self c.put.new.self c.self.invariant
    (rw c.deref.ensures.value at c.in-Some.ensures) c.requires.few alone c.reserve.ensures.same c.put.ensures)
