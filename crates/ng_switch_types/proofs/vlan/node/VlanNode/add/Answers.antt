-- The new filter's hook is there, as the others' are.
use Rattle.std.proofs.Common.{◌≡◌, true, ap, ◌∙◌}
use Rattle.ng_base.specs.Names.{has_name}
use Rattle.ng_switch_types.specs.vlan.State.{Tagger}
use Rattle.ng_switch_types.proofs.vlan.Hooks.{put_kept}
use Rattle.ng_switch_types.proofs.vlan.node.VlanNode.add.Goals as goal

pub invariant_of-self-2 : goal.invariant_of-self-2
invariant_of-self-2 c =
    let names = c.self.inside.hooks.names in
    let there : has_name names c.args.filter.hook ≡ true = ap (λ (t : Tagger). has_name t.hooks c.args.filter.hook) c.self.view_is ∙ c.in_default.ensures.there in
    put_kept names c.args.filter c.self.inside.filters _ c.in_ok-add.ensures.ok there c.self.invariant
