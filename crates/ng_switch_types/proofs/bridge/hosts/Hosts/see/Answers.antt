-- The hosts keep their addresses, and no host is counted under a number below the addresses'.
use Rattle.std.proofs.Common.{◌≡◌, ◌∙◌, ◌+◌, ◌-◌, ◌^◌, rules, sym, length}
use Rattle.ng_machine.specs.kinds.Bridge.{see_host}
use Rattle.ng_sorted.proofs.InOrder.{whole_again}
use Rattle.ng_switch_types.proofs.bridge.Addresses.{hosts_map, see_keeps, see_none, ways_seen}
use Rattle.ng_switch_types.proofs.bridge.hosts.Hosts.see.Goals as goal

pub invariant_of-self : goal.invariant_of-self
invariant_of-self c =
    let hosts = c.self.inside.hosts.items in
    let new = c.see_one.new.hosts in
    let number = 2 ^ 48 + (c.args.number - 2 ^ 48) in
    let same : length new ≡ length hosts = search rules in
    let long : c.self.inside.hosts.len ≡ length hosts = search rules in
    rw (whole_again new hosts c.self.inside.hosts.len same long, c.see_one.ensures, c.deref_mut.ensures.value)
    (record {
      known = hosts_map (see_host number c.args.amount) hosts (see_keeps number c.args.amount) c.self.invariant.known;
      planned = c.self.invariant.planned ∙ sym (ways_seen number c.args.amount hosts);
    })

pub returns-else-number-ge-SEEN : goal.returns-else-number-ge-SEEN
returns-else-number-ge-SEEN c = see_none c.args.number c.args.amount c.args.self.now c.if-number-ge-SEEN.false
