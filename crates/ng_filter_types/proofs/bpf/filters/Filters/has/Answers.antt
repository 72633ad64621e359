-- A name has a place where a hook has it.
use Rattle.std.proofs.Common.{is_some, ap, ◌∙◌}
use Rattle.ng_plan.proofs.lookup.Naming.{place_any}
use Rattle.ng_machine.specs.kinds.Bpf.{is_of_hook}
use Rattle.ng_filter_types.proofs.bpf.filters.Filters.has.Goals as goal

pub returns : goal.returns
returns c =
    c.is_some.ensures
    ∙ ap is_some c.get.ensures
    ∙ rw (← c.self.view_is) (ap is_some (c.self.invariant.indexed c.args.hook.now) ∙ place_any (is_of_hook c.args.hook.now) 0 c.self.inside.filters.items)
