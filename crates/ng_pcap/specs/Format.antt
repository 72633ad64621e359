-- How the numbers and the times of a pcap file are written (pcap-savefile(5)).
use Rattle.std.specs.Prelude.{ℕ, ◌+◌, ◌-◌, ◌*◌, ◌==◌, min, if◌then◌else◌, List, drop, Option, Some, None}
use Rattle.byteorder.specs.Endian.{big_bytes, big_number, little_bytes, little_number}
use Rattle.ng_base.specs.declared.ids.Stamp.{Stamp}
use Rattle.ng_pcap.specs.declared.format.Endian.{Endian}
use Rattle.ng_pcap.specs.declared.format.Endian.TheVariants.{Big, Little}
use Rattle.ng_pcap.specs.declared.format.Resolution.{Resolution}
use Rattle.ng_pcap.specs.declared.format.Resolution.TheVariants.{Microseconds, Nanoseconds}
use Rattle.ng_pcap.specs.declared.format.Format.{Format}

-- the number in the `size` bytes at a place, in the file's byte order
abbrev pub number : Endian → ℕ → ℕ → List ℕ → ℕ
number Big size place bytes = big_number size (drop place bytes)
number Little size place bytes = little_number size (drop place bytes)

-- the bytes of a number, in the file's byte order
abbrev pub number_bytes : Endian → ℕ → ℕ → List ℕ
number_bytes Big size n = big_bytes size n
number_bytes Little size n = little_bytes size n

-- the magic number of a file whose fractions count so
abbrev pub magic_of : Resolution → ℕ
magic_of Microseconds = 0xa1b2c3d4
magic_of Nanoseconds = 0xa1b23c4d

abbrev pub resolution_of : ℕ → Option Resolution
resolution_of magic =
    if magic == magic_of Microseconds then Some Microseconds
    else if magic == magic_of Nanoseconds then Some Nanoseconds
    else None

-- what the magic number says that is read in one order or in the other
abbrev pub either_order : Option Resolution → Option Resolution → Option Format
either_order (Some resolution) little = Some (record { endian = Big; resolution = resolution })
either_order None (Some resolution) = Some (record { endian = Little; resolution = resolution })
either_order None None = None

-- the byte order and the unit of a file that begins so
abbrev pub format_of : List ℕ → Option Format
format_of bytes = either_order (resolution_of (number Big 4 0 bytes)) (resolution_of (number Little 4 0 bytes))

-- how many fractions are a second, and how many nanoseconds a fraction is
abbrev pub per_second : Resolution → ℕ
per_second Microseconds = 1_000_000
per_second Nanoseconds = 1_000_000_000

abbrev pub nanos : Resolution → ℕ
nanos Microseconds = 1_000
nanos Nanoseconds = 1

-- The time of so many seconds and so many fractions, in nanoseconds. A fraction at or above a second counts as the last
-- one below it, which is this project's choice.
abbrev pub stamp_of : Resolution → ℕ → ℕ → Stamp
stamp_of resolution seconds fraction =
    record { 0 = seconds * 1_000_000_000 + min fraction (per_second resolution - 1) * nanos resolution }
