-- The host of the address is counted, and where there is none nothing is.
use Rattle.std.proofs.Common.{ap, sym, ◌∙◌}
use Rattle.ng_switch_types.specs.bridge.Hosts.{address_of}
use Rattle.ng_sorted.proofs.InOrder.{change_one, change_none}
use Rattle.ng_switch_types.proofs.bridge.Addresses.{seen_more, see_is_change}
use Rattle.ng_switch_types.proofs.bridge.hosts.see_one.Goals as goal

pub returns-in-Ok : goal.returns-in-Ok
returns-in-Ok c =
    let hosts = c.args.hosts.now in
    let f = seen_more c.args.amount in
    rw (c.see.ensures ∙ ap f (sym c.index-hosts-at.is))
    (change_one address_of hosts c.args.addr c.in-Ok.at f c.index-hosts-at.result c.in-Ok.ensures.found c.index-hosts-at.is ∙ see_is_change c.args.addr c.args.amount hosts)

pub returns-in_default : goal.returns-in_default
returns-in_default c =
    let hosts = c.args.hosts.now in
    sym (change_none address_of hosts c.args.addr c.in_default.field-0 (seen_more c.args.amount) c.in_default.ensures.missing) ∙ see_is_change c.args.addr c.args.amount hosts
