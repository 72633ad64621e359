-- What the search found is the host of that address.
use Rattle.std.proofs.Common.{sym, ap, ◌∙◌}
use Rattle.std.specs.Option.{option_map}
use Rattle.byteorder.specs.Endian.{big_number}
use Rattle.ng_machine.specs.kinds.Bridge.{host_way}
use Rattle.ng_switch_types.specs.bridge.Hosts.{IsAddress, address_of}
use Rattle.ng_sorted.specs.Order.{IsPlace, IsGap}
use Rattle.ng_sorted.proofs.InOrder.{find_place, find_gap, get_at}
use Rattle.ng_switch_types.proofs.bridge.Addresses.{host_found}
use Rattle.ng_switch_types.proofs.bridge.hosts.Hosts.find.Goals as goal

pub returns-in-Ok : goal.returns-in-Ok
returns-in-Ok c =
    let hosts = c.self.inside.hosts.items in
    let addr = c.args.addr.now in
    let is : IsAddress addr = record { six = c.told-addr; bytes = c.fits-addr } in
    let at : IsPlace address_of hosts (big_number 6 addr) c.in-Ok.at = rw (c.deref.ensures.value, c.address_number.ensures.value) at c.in-Ok.ensures.found in
    rw (← c.self.view_is) (sym (host_found hosts addr is c.self.invariant.known.addressed
    ∙ ap (option_map host_way) (find_place address_of hosts (big_number 6 addr) c.in-Ok.at at ∙ get_at hosts c.in-Ok.at c.index.result.now at.in_range c.index.ensures)))

pub returns-in-Err : goal.returns-in-Err
returns-in-Err c =
    let hosts = c.self.inside.hosts.items in
    let addr = c.args.addr.now in
    let is : IsAddress addr = record { six = c.told-addr; bytes = c.fits-addr } in
    let at : IsGap address_of hosts (big_number 6 addr) c.in-Err.field-0 = rw (c.deref.ensures.value, c.address_number.ensures.value) at c.in-Err.ensures.missing in
    rw (← c.self.view_is) (sym (host_found hosts addr is c.self.invariant.known.addressed ∙ ap (option_map host_way) (find_gap address_of hosts (big_number 6 addr) c.in-Err.field-0 at)))
