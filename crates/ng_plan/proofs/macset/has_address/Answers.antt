-- The address that is found by the number of an address is the same.
use Rattle.std.proofs.Common.{ℕ, List, is_some, ap, ◌∙◌}
use Rattle.byteorder.specs.Endian.{big_number}
use Rattle.ng_plan.proofs.lookup.AddressLemmas.{found_number, found_address, lacks_address, any_found}
use Rattle.ng_plan.proofs.macset.has_address.Goals as goal

pub same_address-requires : goal.same_address-requires
same_address-requires c =
    found_number (big_number 6) c.args.set.now c.address_number.result c.in-Some.other.now c.in-Some.ensures ∙ c.address_number.ensures.value

pub returns-in-Some : goal.returns-in-Some
returns-in-Some c =
    ap is_some (found_address (λ (a : List ℕ). a) c.args.set.now c.args.address.now c.in-Some.other.now (rw c.address_number.ensures.value at c.in-Some.ensures) c.same_address.ensures)
    ∙ any_found _ c.args.set.now

pub returns-in-None : goal.returns-in-None
returns-in-None c =
    ap is_some (lacks_address (λ (a : List ℕ). a) c.args.set.now c.args.address.now (rw c.address_number.ensures.value at c.in-None.ensures)) ∙ any_found _ c.args.set.now
