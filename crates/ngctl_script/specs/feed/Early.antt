-- Times that a capture may have.
use Rattle.std.specs.Prelude.{ℕ, ◌^◌, ◌*◌, ◌<◌, List}
use Rattle.ng_base.specs.declared.ids.Stamp.{Stamp}

-- below 2^32 seconds, as the head of a packet has them (pcap-savefile(5))
abbrev pub IsEarly : Stamp × List ℕ → Type 0
IsEarly packet = packet.0.0 < 2 ^ 32 * 1_000_000_000
