-- The filters that are left are of hooks that are left.
use Rattle.ng_filter_types.proofs.Hooks.{cut_kept}
use Rattle.ng_filter_types.proofs.etf.EtfNodeNode.cut.Goals as goal

pub invariant_of-self : goal.invariant_of-self
invariant_of-self c = cut_kept c.self.inside.hooks.names c.self.inside.filters c.args.hook.now _ _ c.cut.ensures c.cut-2.ensures c.self.invariant
