-- Laws of the format, over every list of bytes. Together the first four say what each file is read as whose head has no
-- fault, and the fifth says which heads have one, and which.
use Rattle.std.specs.Prelude.{◌≡◌, ◌≢◌, ◌<◌, ◌↔◌, ℕ, List, [], length, slice_index, Some, None, Ok, Err, IsOk}
use Rattle.std.specs.List.{AllByRecursion}
use Rattle.ng_base.specs.declared.ids.Stamp.{Stamp}
use Rattle.ng_pcap.specs.declared.fault.CaptureFault.TheVariants.{BadLink, BadVersion, NoMagic, NoMemory, ShortHeader, TooLong}
use Rattle.ng_pcap.specs.declared.format.Format.{Format}
use Rattle.ng_pcap.specs.Format.{number}
use Rattle.ng_pcap.specs.Heads.{HasNoFault, HasNoMagic, HasNoneOfThese, HasOtherLink, HasOtherVersion, IsShort}
use Rattle.ng_pcap.specs.Reading.{capture_of, head_of}
use Rattle.ng_pcap.specs.Spelling.{Head, Entry, HasSpelling, IsCut, IsFile, IsTooLong, kept_of, text_of}
use Rattle.ng_pcap.specs.Writing.{IsWritable, written_file}

-- a head and whole packets are read as those packets
abbrev pub ReadsWhole : Type 0
ReadsWhole =
    (bytes : List ℕ) (head : Head) (entries : List Entry) →
    IsFile bytes head entries []
    → capture_of bytes ≡ Ok (record { kept = kept_of head.format.resolution entries; cut = None })

-- with a part of a packet behind them they are read as those packets, cut where that part begins
abbrev pub ReadsCut : Type 0
ReadsCut =
    (bytes : List ℕ) (head : Head) (entries : List Entry) (rest : List ℕ) →
    IsFile bytes head entries rest → IsCut head.format.endian rest
    → capture_of bytes ≡ Ok (record { kept = kept_of head.format.resolution entries; cut = Some (length (text_of head entries)) })

-- with a packet behind them that is too long they are refused, for that packet
abbrev pub RefusesTooLong : Type 0
RefusesTooLong =
    (bytes : List ℕ) (head : Head) (entries : List Entry) (rest : List ℕ) →
    IsFile bytes head entries rest → IsTooLong head.format.endian rest
    → capture_of bytes ≡ Err (TooLong (length (text_of head entries)) (number head.format.endian 4 8 rest))

-- there are no other files whose head has no fault
abbrev pub HasAlwaysASpelling : Type 0
HasAlwaysASpelling =
    (bytes : List ℕ) (format : Format) →
    ((i : ℕ) → slice_index bytes i < 256) → head_of bytes ≡ Ok format → HasSpelling bytes format

-- the faults of the head, each exactly where it is the first; and the head has none exactly where none of these is there,
-- which is where it has one of the magic numbers, the version and the link type that are known
pub record HeadFaults (bytes : List ℕ) : Type 0 where
  pub short : (n : ℕ) → (capture_of bytes ≡ Err (ShortHeader n)) ↔ IsShort n bytes
  pub no_magic : (capture_of bytes ≡ Err NoMagic) ↔ HasNoMagic bytes
  pub version : (capture_of bytes ≡ Err BadVersion) ↔ HasOtherVersion bytes
  pub link : (n : ℕ) → (capture_of bytes ≡ Err (BadLink n)) ↔ HasOtherLink n bytes
  pub fine : (format : Format) → (head_of bytes ≡ Ok format) ↔ HasNoFault format bytes
  pub none : IsOk (head_of bytes) ↔ HasNoneOfThese bytes

abbrev pub HeadFaultsAreThese : Type 0
HeadFaultsAreThese = (bytes : List ℕ) → ((i : ℕ) → slice_index bytes i < 256) → HeadFaults bytes

-- out of memory is nothing that bytes are read as
abbrev pub IsNeverOutOfMemory : Type 0
IsNeverOutOfMemory = (bytes : List ℕ) → capture_of bytes ≢ Err NoMemory

-- what is written is read back, whatever packets they are and however many
abbrev pub ReadsWrittenBack : Type 0
ReadsWrittenBack =
    (packets : List (Stamp × List ℕ)) →
    AllByRecursion IsWritable packets → capture_of (written_file packets) ≡ Ok (record { kept = packets; cut = None })
