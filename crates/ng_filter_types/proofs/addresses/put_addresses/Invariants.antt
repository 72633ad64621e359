use Rattle.std.proofs.Common.{◌≡◌, ◌++◌, ℕ, List, take, flat_map}
use Rattle.ng_filter_types.proofs.addresses.put_addresses.Given as goal

abbrev pub invariant-loop-address : goal.invariant-loop-address
invariant-loop-address l = l.out.items ≡ l.initial.out.items ++ flat_map (λ (address : List ℕ). address) (take l.address-index l.addresses)
