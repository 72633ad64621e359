-- The filter of the number that stands under the hook is the hook's only one.
use Rattle.std.proofs.Common.{ap, sym, ◌∙◌}
use Rattle.ng_machine.specs.kinds.Vlan.{without_filters_of}
use Rattle.ng_plan.proofs.lookup.Apart.{nothing_out, taken_out}
use Rattle.ng_switch_types.proofs.vlan.Apart.{ascending, kept_left}
use Rattle.ng_switch_types.proofs.vlan.filters.Filters.cut.Goals as goal

pub invariant_of-self : goal.invariant_of-self
invariant_of-self c =
    let kept = c.self.invariant in
    let up = ascending c.self.inside.list.items kept.in_order in
    let out = c.take_out.ensures
    ∙ taken_out c.self.inside.list.items c.self.inside.numbers c.args.hook.now c.in-Some.number up kept.numbered kept.apart
    (sym c.in-Some.is ∙ c.get.ensures) in
    rw out (kept_left c.self.inside.list.items c.self.inside.numbers c.remove.new.self c.args.hook.now kept c.remove.ensures)

pub returns-in-Some : goal.returns-in-Some
returns-in-Some c =
    let kept = c.self.invariant in
    let up = ascending c.self.inside.list.items kept.in_order in
    c.take_out.ensures
    ∙ taken_out c.self.inside.list.items c.self.inside.numbers c.args.hook.now c.in-Some.number up kept.numbered kept.apart
    (sym c.in-Some.is ∙ c.get.ensures)
    ∙ ap (without_filters_of c.args.hook.now) c.self.view_is

pub returns-in_default : goal.returns-in_default
returns-in_default c =
    rw (← c.self.view_is)
    (nothing_out c.self.inside.list.items c.self.inside.numbers c.args.hook.now c.self.invariant.numbered (sym c.in_default.is ∙ c.get.ensures))
