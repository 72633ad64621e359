-- What a packet leaves.
use Rattle.std.proofs.Common.{◌≡◌, rules, ap, ◌∙◌}
use Rattle.ng_machine.specs.kinds.One2many.{deals, many_after}
use Rattle.ng_switch_types.specs.one2many.Node.{names_of, one2many_state}
use Rattle.ng_switch_types.proofs.one2many.States.{state_dealt}
use Rattle.ng_switch_types.proofs.one2many.node.One2manyNodeNode.write.Goals as goal

pub returns-in_ok-outcome-in-Frame-clause-after : goal.returns-in_ok-outcome-in-Frame-clause-after
returns-in_ok-outcome-in-Frame-clause-after c =
    let s = c.self.inside.one2many in
    let names = names_of s.rows in
    let settled : c.settle.new.self ≡ many_after s names c.in-Frame.door (deals s names c.in-Frame.door c.in-Frame.packet).counts = search rules in
    rw (c.in-Frame.is, ← c.self.view_is) (ap one2many_state settled ∙ state_dealt s names c.in-Frame.door (deals s names c.in-Frame.door c.in-Frame.packet).counts)
