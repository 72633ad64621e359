-- The host stands in its place or in its gap, which keeps the order.
use Rattle.std.proofs.Common.{map, length, List, set, ◌<◌, None, ◌≡◌, sym, ap, ◌∙◌}
use Rattle.std.specs.List.{insert}
use Rattle.std.specs.Option.{option_map}
use Rattle.std.proofs.lemmas.List.{map-set}
use Rattle.byteorder.specs.Endian.{big_number}
use Rattle.ng_machine.specs.declared.plan.BridgeHost.{BridgeHost}
use Rattle.ng_machine.specs.kinds.Bridge.{host_of, host_way, new_host, put_host}
use Rattle.ng_switch_types.specs.bridge.Hosts.{IsAddress, address_of}
use Rattle.ng_sorted.specs.Order.{IsPlace, IsGap}
use Rattle.ng_sorted.proofs.InOrder.{find_gap, on_ok}
use Rattle.ng_switch_types.proofs.bridge.Addresses.{host_found, put_place, put_gap, hosts_set, hosts_insert, learned}
use Rattle.ng_switch_types.proofs.bridge.hosts.Hosts.learn.Goals as goal

pub invariant_of-self : goal.invariant_of-self
invariant_of-self c =
    let hosts = c.self.inside.hosts.items in
    let addr = c.args.addr.now in
    let is : IsAddress addr = record { six = c.told-addr; bytes = c.fits-addr } in
    let at : IsPlace address_of hosts (big_number 6 addr) c.in-Ok.at = rw (c.deref.ensures.value, c.address_number.ensures.value) at c.in-Ok.ensures.found in
    let x = c.new-host.result in
    record {
      known = rw c.new-host.ensures (hosts_set hosts c.in-Ok.at (new_host addr c.args.link) is at c.self.invariant.known);
      planned = ap (λ (w : BridgeHost). set c.self.inside.ways.items c.in-Ok.at w) c.way.ensures
          ∙ ap (λ (ways : List BridgeHost). set ways c.in-Ok.at (host_way x)) c.self.invariant.planned ∙ sym (map-set host_way hosts c.in-Ok.at x);
    }

pub returns-in-Ok-clause-ok : goal.returns-in-Ok-clause-ok
returns-in-Ok-clause-ok c =
    let hosts = c.self.inside.hosts.items in
    let addr = c.args.addr.now in
    let is : IsAddress addr = record { six = c.told-addr; bytes = c.fits-addr } in
    let at : IsPlace address_of hosts (big_number 6 addr) c.in-Ok.at = rw (c.deref.ensures.value, c.address_number.ensures.value) at c.in-Ok.ensures.found in
    rw (c.new-host.ensures, ← c.self.view_is) (sym (put_place hosts c.in-Ok.at (new_host addr c.args.link) is c.self.invariant.known.addressed at))

pub invariant_of-self-in-Err : goal.invariant_of-self-in-Err
invariant_of-self-in-Err c =
    let hosts = c.self.inside.hosts.items in
    let addr = c.args.addr.now in
    let is : IsAddress addr = record { six = c.told-addr; bytes = c.fits-addr } in
    let at : IsGap address_of hosts (big_number 6 addr) c.in-Err.at = rw (c.deref.ensures.value, c.address_number.ensures.value) at c.in-Err.ensures.missing in
    let none : host_of addr (map host_way hosts) ≡ None =
    host_found hosts addr is c.self.invariant.known.addressed ∙ ap (option_map host_way) (find_gap address_of hosts (big_number 6 addr) c.in-Err.at at) in
    let room : length hosts < 4096 = (rw (← c.self.view_is) at c.requires.room) none in
    let told = c.insert.ensures in
    learned c.insert.result hosts c.insert.new.hosts.items c.self.inside.ways.items c.insert.new.ways.items c.in-Err.at c.new.result told.host told.way told.hosts_stay told.ways_stay
    (rw c.new.ensures (hosts_insert hosts c.in-Err.at (new_host addr c.args.link) is at room c.self.invariant.known)) c.self.invariant

pub returns-in-Err-clause-ok : goal.returns-in-Err-clause-ok
returns-in-Err-clause-ok c =
    let hosts = c.self.inside.hosts.items in
    let addr = c.args.addr.now in
    let x = new_host addr c.args.link in
    let is : IsAddress addr = record { six = c.told-addr; bytes = c.fits-addr } in
    let at : IsGap address_of hosts (big_number 6 addr) c.in-Err.at = rw (c.deref.ensures.value, c.address_number.ensures.value) at c.in-Err.ensures.missing in
    rw (← c.self.view_is) (on_ok c.insert.result c.insert.new.hosts.items (insert hosts c.in-Err.at c.new.result) (put_host x hosts)
    (ap (insert hosts c.in-Err.at) c.new.ensures ∙ sym (put_gap hosts c.in-Err.at x is c.self.invariant.known.addressed at)) c.insert.ensures.host)
