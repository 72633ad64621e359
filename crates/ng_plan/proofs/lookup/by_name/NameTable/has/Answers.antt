-- A name has a place where an entry has it.
use Rattle.std.proofs.Common.{is_some, ap, ◌∙◌}
use Rattle.ng_plan.proofs.lookup.Naming.{place_any}
use Rattle.ng_plan.proofs.lookup.by_name.NameTable.has.Goals as goal

pub returns : goal.returns
returns g c =
    c.is_some.ensures
    ∙ ap is_some c.get.ensures
    ∙ rw (← c.self.view_is) (ap is_some (c.self.invariant c.args.name.now) ∙ place_any _ 0 c.self.inside.entries)
