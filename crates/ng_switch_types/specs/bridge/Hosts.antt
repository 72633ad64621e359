-- The hosts of a bridge: in order of their addresses, each of six bytes, and at most 4,096.
use Rattle.std.specs.Prelude.{◌≡◌, ℕ, ◌<◌, ◌≤◌, List, length, map, slice_index}
use Rattle.byteorder.specs.Endian.{big_number}
use Rattle.ng_machine.specs.declared.plan.BridgeHost.{BridgeHost}
use Rattle.ng_machine.specs.kinds.Bridge.{Host, host_way, most_hosts}
use Rattle.ng_machine.specs.Words.{Every}
use Rattle.ng_sorted.specs.Order.{IsInOrder}

-- an Ethernet address (IEEE 802)
pub record IsAddress (addr : List ℕ) : Type 0 where
  pub six : length addr ≡ 6
  pub bytes : (k : ℕ) → slice_index addr k < 256

-- by what hosts are in order
abbrev pub address_of : Host → ℕ
address_of h = big_number 6 h.addr

pub record AreHosts (hosts : List Host) : Type 0 where
  pub ordered : IsInOrder address_of hosts
  pub addressed : Every (λ h. IsAddress h.addr) hosts
  pub few : length hosts ≤ most_hosts

-- hosts, and beside them in the same order what a plan holds of each
pub record AreKept (hosts : List Host) (ways : List BridgeHost) : Type 0 where
  pub known : AreHosts hosts
  pub planned : ways ≡ map host_way hosts
