-- What is written: a file of one form, which other programs read (pcap-savefile(5)).
use Rattle.std.specs.Prelude.{ℕ, ◌*◌, ◌/◌, ◌%◌, ◌^◌, ◌<◌, ◌≤◌, List, ◌++◌, length}
use Rattle.std.specs.List.{flat_map}
use Rattle.ng_base.specs.declared.ids.Stamp.{Stamp}
use Rattle.ng_base.specs.declared.packet.TheConstants.{MAX_PACKET_LEN}
use Rattle.ng_pcap.specs.declared.format.Endian.TheVariants.{Little}
use Rattle.ng_pcap.specs.declared.format.Resolution.TheVariants.{Nanoseconds}
use Rattle.ng_pcap.specs.Spelling.{Head, Entry, head_bytes, entry_bytes}

-- the lowest byte first, nanoseconds, packets of at most MAX_PACKET_LEN bytes
abbrev pub head_to_write : Head
head_to_write = record {
  format = record { endian = Little; resolution = Nanoseconds };
  zone = 0;
  accuracy = 0;
  longest = MAX_PACKET_LEN;
}

-- a packet that was kept whole
abbrev pub entry_to_write : Stamp → List ℕ → Entry
entry_to_write stamp packet = record {
  seconds = stamp.0 / 1_000_000_000;
  fraction = stamp.0 % 1_000_000_000;
  original = length packet;
  packet = packet;
}

abbrev pub written_head : List ℕ
written_head = head_bytes head_to_write

abbrev pub written_packet : Stamp → List ℕ → List ℕ
written_packet stamp packet = entry_bytes Little (entry_to_write stamp packet)

-- the file of these packets
abbrev pub written_file : List (Stamp × List ℕ) → List ℕ
written_file packets = written_head ++ flat_map (λ packet. written_packet packet.0 packet.1) packets

-- below 2^32 seconds, and not too long
pub record IsWritable (packet : Stamp × List ℕ) : Type 0 where
  pub in_seconds : packet.0.0 < 2 ^ 32 * 1_000_000_000
  pub in_length : length packet.1 ≤ MAX_PACKET_LEN
