-- The host that is found by the number of an address has the address.
use Rattle.std.proofs.Common.{◌∙◌}
use Rattle.byteorder.specs.Endian.{big_number}
use Rattle.ng_machine.specs.declared.plan.BridgeHost.{BridgeHost}
use Rattle.ng_plan.proofs.lookup.AddressLemmas.{found_number, found_address, lacks_address}
use Rattle.ng_plan.proofs.bridge_plan.bridge.host_of.Goals as goal

pub same_address-requires : goal.same_address-requires
same_address-requires c =
    found_number (λ (h : BridgeHost). big_number 6 h.addr) c.args.hosts.now c.address_number.result c.in-Some.host.now c.in-Some.ensures ∙ c.address_number.ensures.value

pub returns-in-Some : goal.returns-in-Some
returns-in-Some c =
    found_address (λ (h : BridgeHost). h.addr) c.args.hosts.now c.args.address.now c.in-Some.host.now (rw c.address_number.ensures.value at c.in-Some.ensures) c.same_address.ensures

pub returns-in-None : goal.returns-in-None
returns-in-None c = lacks_address (λ (h : BridgeHost). h.addr) c.args.hosts.now c.args.address.now (rw c.address_number.ensures.value at c.in-None.ensures)
