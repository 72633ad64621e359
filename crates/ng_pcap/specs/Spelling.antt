-- How captures are spelled in bytes (pcap-savefile(5)): a head, and packets each behind a head of its own.
use Rattle.std.specs.Prelude.{◌≡◌, ℕ, ◌+◌, ◌^◌, ◌<◌, ◌≤◌, ◌⊎◌, List, [], ◌++◌, length, map}
use Rattle.std.specs.List.{flat_map, AllByRecursion}
use Rattle.ng_base.specs.declared.ids.Stamp.{Stamp}
use Rattle.ng_base.specs.declared.packet.TheConstants.{MAX_PACKET_LEN}
use Rattle.ng_pcap.specs.declared.format.Endian.{Endian}
use Rattle.ng_pcap.specs.declared.format.Resolution.{Resolution}
use Rattle.ng_pcap.specs.declared.format.Format.{Format}
use Rattle.ng_pcap.specs.Format.{number, number_bytes, magic_of, stamp_of}

-- what a file's head says beside its version and its link type
pub record Head : Type 0 where
  pub format : Format
  pub zone : ℕ
  pub accuracy : ℕ
  pub longest : ℕ

-- a packet, and what its own head says beside its length
pub record Entry : Type 0 where
  pub seconds : ℕ
  pub fraction : ℕ
  pub original : ℕ
  pub packet : List ℕ

-- 24 bytes: the magic number, version 2.4, and the link type of Ethernet last
abbrev pub head_bytes : Head → List ℕ
head_bytes head =
    let endian = head.format.endian in
    number_bytes endian 4 (magic_of head.format.resolution)
    ++ (number_bytes endian 2 2
    ++ (number_bytes endian 2 4
    ++ (number_bytes endian 4 head.zone
    ++ (number_bytes endian 4 head.accuracy
    ++ (number_bytes endian 4 head.longest
    ++ number_bytes endian 4 1)))))

-- 16 bytes and the packet
abbrev pub entry_bytes : Endian → Entry → List ℕ
entry_bytes endian entry =
    number_bytes endian 4 entry.seconds
    ++ (number_bytes endian 4 entry.fraction
    ++ (number_bytes endian 4 (length entry.packet)
    ++ (number_bytes endian 4 entry.original
    ++ entry.packet)))

-- packets one behind the other
abbrev pub entries_bytes : Endian → List Entry → List ℕ
entries_bytes endian entries = flat_map (λ entry. entry_bytes endian entry) entries

-- the head and the packets behind it
abbrev pub text_of : Head → List Entry → List ℕ
text_of head entries = head_bytes head ++ entries_bytes head.format.endian entries

-- the packets with their times
abbrev pub kept_of : Resolution → List Entry → List (Stamp × List ℕ)
kept_of resolution entries = map (λ entry. (stamp_of resolution entry.seconds entry.fraction, entry.packet)) entries

-- the numbers are of their fields' sizes
pub record IsHead (head : Head) : Type 0 where
  pub zone : head.zone < 2 ^ 32
  pub accuracy : head.accuracy < 2 ^ 32
  pub longest : head.longest < 2 ^ 32

-- the same, and the packet isn't too long
pub record IsEntry (entry : Entry) : Type 0 where
  pub seconds : entry.seconds < 2 ^ 32
  pub fraction : entry.fraction < 2 ^ 32
  pub original : entry.original < 2 ^ 32
  pub packet : length entry.packet ≤ MAX_PACKET_LEN

-- the bytes are a head, whole packets, and a rest
pub record IsFile (bytes : List ℕ) (head : Head) (entries : List Entry) (rest : List ℕ) : Type 0 where
  pub is_head : IsHead head
  pub are_entries : AllByRecursion IsEntry entries
  pub whole : bytes ≡ text_of head entries ++ rest

-- what begins as a packet that isn't too long, and ends before it does
abbrev pub IsCut : Endian → List ℕ → Type 0
IsCut endian rest =
    (0 < length rest)
    × ((length rest < 16) ⊎ ((number endian 4 8 rest ≤ MAX_PACKET_LEN) × (length rest < 16 + number endian 4 8 rest)))

-- what begins with the head of a packet that is too long
abbrev pub IsTooLong : Endian → List ℕ → Type 0
IsTooLong endian rest = (16 ≤ length rest) × (MAX_PACKET_LEN < number endian 4 8 rest)

-- the bytes are a file so written, which ends with a packet, is cut, or has a packet that is too long
pub record HasSpelling (bytes : List ℕ) (format : Format) : Type 0 where
  pub head : Head
  pub entries : List Entry
  pub rest : List ℕ
  pub same_format : head.format ≡ format
  pub file : IsFile bytes head entries rest
  pub ends : (rest ≡ []) ⊎ (IsCut format.endian rest ⊎ IsTooLong format.endian rest)
