-- A hook that is cut right after it was made had no filter.
use Rattle.std.proofs.Common.{◌≡◌, false, ◌∙◌}
use Rattle.ng_base.specs.Names.{has_name}
use Rattle.ng_filter_types.proofs.Hooks.{same_state, undone}
use Rattle.ng_filter_types.proofs.etf.EtfNodeNode.newhook.Goals as goal

pub returns-clause-undone : goal.returns-clause-undone
returns-clause-undone c =
    let fresh : has_name c.self.inside.hooks.names c.args.hook.now ≡ false = rw (← c.self.view_is) at c.requires.fresh in
    rw (← c.self.view_is) (
    same_state _ c.self.inside.hooks.names _ c.self.inside.filters c.self.inside.counters
    (c.add.ensures.undone ∙ c.in_ok-reserve.ensures.same)
    (undone c.self.inside.hooks.names c.self.inside.filters c.args.hook.now c.self.invariant fresh))
