-- The packets of captures as one list, by their times.
use Rattle.std.specs.Prelude.{ℕ, zero, suc, ◌+◌, nat_le, if◌then◌else◌, List, [], ◌∷◌, length, Option, Some, None}
use Rattle.ng_base.specs.declared.ids.Stamp.{Stamp}
use Rattle.ngctl_script.specs.declared.feed.arrival.Arrival.{Arrival}

-- a capture's packets and their times
abbrev pub Packets : Type 0
Packets = List (Stamp × List ℕ)

abbrev pub first_stamp : Packets → Option Stamp
first_stamp [] = None
first_stamp (packet ∷ packets) = Some packet.0

-- the one with the lesser time, and the first where the times are equal
abbrev pub earlier : Arrival → Option Arrival → Option Arrival
earlier arrival None = Some arrival
earlier arrival (Some other) = if nat_le arrival.stamp.0 other.stamp.0 then Some arrival else Some other

-- the next packet: of the captures' first packets the one with the least time
abbrev pub next_from : ℕ → List Packets → Option Arrival
next_from port [] = None
next_from port ([] ∷ captures) = next_from (port + 1) captures
next_from port ((packet ∷ packets) ∷ captures) = earlier (record { port = port; stamp = packet.0; packet = packet.1 }) (next_from (port + 1) captures)

-- the captures without the first packet of one
abbrev pub without_first : Packets → Packets
without_first [] = []
without_first (packet ∷ packets) = packets

abbrev pub without_next : ℕ → List Packets → List Packets
without_next port [] = []
without_next zero (packets ∷ captures) = without_first packets ∷ captures
without_next (suc port) (packets ∷ captures) = packets ∷ without_next port captures

-- how many packets there are
abbrev pub packet_count : List Packets → ℕ
packet_count [] = 0
packet_count (packets ∷ captures) = length packets + packet_count captures

-- again and again the next one is taken, as often as there are packets
abbrev pub taken : List Packets → (List Packets → List Arrival) → Option Arrival → List Arrival
taken captures rest None = []
taken captures rest (Some arrival) = arrival ∷ rest (without_next arrival.port captures)

abbrev pub merged_in : ℕ → List Packets → List Arrival
merged_in zero captures = []
merged_in (suc turns) captures = taken captures (λ rest. merged_in turns rest) (next_from 0 captures)

abbrev pub merged : List Packets → List Arrival
merged captures = merged_in (packet_count captures) captures

-- a packet that was taken, and those that are left; where there was none, none is left
abbrev pub with_next : Option Arrival → List Arrival → List Arrival
with_next None arrivals = []
with_next (Some arrival) arrivals = arrival ∷ arrivals
