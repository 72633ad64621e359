-- What the search by the number of the address found.
use Rattle.std.proofs.Common.{rules, [], Ok, Err, ◌∙◌}
use Rattle.std.proofs.lemmas.List.Sorted.{answers_always}
use Rattle.byteorder.specs.Endian.{big_number}
use Rattle.ng_sorted.specs.Order.{IsGap}
use Rattle.ng_sorted.proofs.InOrder.{searched}
use Rattle.ng_filter_types.proofs.AddressLists.{has_found, lacks}
use Rattle.ng_filter_types.proofs.addresses.free_place.Goals as goal

pub same_address-requires : goal.same_address-requires
same_address-requires c =
    let addresses = c.args.addresses.now in
    let k = c.in-Ok.place in
    let by_key = c.in-Ok.ensures.position (big_number 6) (answers_always _ _ _ (λ f a r h called. search rules)) in
    let at = (searched (big_number 6) addresses c.address_number.result (Ok k) c.requires c.in-Ok.ensures.bound by_key).found in
    at.same [] ∙ c.address_number.ensures.value

pub returns-in-Ok : goal.returns-in-Ok
returns-in-Ok c = has_found c.args.addresses.now c.args.address.now c.in-Ok.place c.in-Ok.ensures.bound c.same_address.ensures

pub returns-in-Err : goal.returns-in-Err
returns-in-Err c =
    let addresses = c.args.addresses.now in
    let k = c.in-Err.place in
    let by_key = c.in-Err.ensures.position (big_number 6) (answers_always _ _ _ (λ f a r h called. search rules)) in
    let found = (searched (big_number 6) addresses c.address_number.result (Err k) c.requires c.in-Err.ensures.bound by_key).missing in
    let gap : IsGap (big_number 6) addresses (big_number 6 c.args.address.now) k = rw c.address_number.ensures.value at found in
    record { none = lacks addresses c.args.address.now k gap; gap = gap }
