-- The new filter's hook is there, as the others' are.
use Rattle.std.proofs.Common.{◌≡◌, true}
use Rattle.ng_base.specs.Names.{has_name}
use Rattle.ng_filter_types.proofs.Hooks.{put_kept}
use Rattle.ng_filter_types.proofs.etf.EtfNode.add.Goals as goal

pub invariant_of-self-2 : goal.invariant_of-self-2
invariant_of-self-2 c =
    let there : has_name c.self.inside.hooks.names c.args.filter.hook ≡ true = rw (← c.self.view_is) at c.in_default.ensures.there in
    put_kept c.self.inside.hooks.names c.args.filter c.self.inside.filters _ c.in_ok-add.ensures.ok there c.self.invariant
