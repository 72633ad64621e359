-- The addresses of a macset: in order of the numbers that they write, and at most 4,096.
use Rattle.std.specs.Prelude.{◌≡◌, ◌≤◌, ℕ, false, List, length}
use Rattle.byteorder.specs.Endian.{big_number}
use Rattle.ng_machine.specs.kinds.Macset.{has_address, most_addresses}
use Rattle.ng_sorted.specs.Order.{IsInOrder, IsGap}

pub record AreAddresses (addresses : List (List ℕ)) : Type 0 where
  pub ordered : IsInOrder (big_number 6) addresses
  pub few : length addresses ≤ most_addresses

-- the address isn't there, and would stand at this place
pub record IsFree (addresses : List (List ℕ)) (address : List ℕ) (place : ℕ) : Type 0 where
  pub none : has_address addresses address ≡ false
  pub gap : IsGap (big_number 6) addresses (big_number 6 address) place
