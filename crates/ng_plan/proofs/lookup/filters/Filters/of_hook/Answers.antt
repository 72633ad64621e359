-- The number that stands under the hook is that of the hook's first filter.
use Rattle.std.proofs.Common.{sym, ◌∙◌}
use Rattle.ng_plan.proofs.lookup.HookNumbers.{led_by_number}
use Rattle.ng_plan.proofs.lookup.filters.Filters.of_hook.Goals as goal

pub returns-in-Some : goal.returns-in-Some
returns-in-Some c =
    let leads = rw c.in-Numbers.is at c.self.invariant in
    c.of_number.ensures
    ∙ rw (← c.self.view_is)
    (led_by_number c.self.inside.table c.in-Numbers.numbers c.args.hook.now c.in-Some.number leads.0 leads.1 (sym c.in-Some.is ∙ c.get.ensures))
