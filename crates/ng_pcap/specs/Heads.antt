-- What is wrong with a file's head, in plain relations (pcap-savefile(5)). A head is 24 bytes: the magic number first, the
-- version's two parts at 4 and 6, and the link type at 20.
use Rattle.std.specs.Prelude.{◌≡◌, ◌≢◌, ◌<◌, ◌≤◌, ℕ, List, [], ◌∷◌, length, take, drop}
use Rattle.byteorder.specs.Endian.{big_number, little_number}
use Rattle.ng_pcap.specs.declared.format.Endian.{Endian}
use Rattle.ng_pcap.specs.declared.format.Endian.TheVariants.{Big, Little}
use Rattle.ng_pcap.specs.declared.format.Resolution.{Resolution}
use Rattle.ng_pcap.specs.declared.format.Resolution.TheVariants.{Microseconds, Nanoseconds}
use Rattle.ng_pcap.specs.declared.format.Format.{Format}

-- the four spellings of the magic number
abbrev pub magic_bytes : Endian → Resolution → List ℕ
magic_bytes Big Microseconds = 0xa1 ∷ 0xb2 ∷ 0xc3 ∷ 0xd4 ∷ []
magic_bytes Big Nanoseconds = 0xa1 ∷ 0xb2 ∷ 0x3c ∷ 0x4d ∷ []
magic_bytes Little Microseconds = 0xd4 ∷ 0xc3 ∷ 0xb2 ∷ 0xa1 ∷ []
magic_bytes Little Nanoseconds = 0x4d ∷ 0x3c ∷ 0xb2 ∷ 0xa1 ∷ []

-- the file has n bytes, which are too few
pub record IsShort (n : ℕ) (bytes : List ℕ) : Type 0 where
  pub len : length bytes ≡ n
  pub few : n < 24

-- there are enough, and the first four are none of the spellings
pub record HasNoMagic (bytes : List ℕ) : Type 0 where
  pub room : 24 ≤ length bytes
  pub other : (endian : Endian) (resolution : Resolution) → take 4 bytes ≢ magic_bytes endian resolution

-- there are enough, and the first four are this spelling
pub record HasMagic (endian : Endian) (resolution : Resolution) (bytes : List ℕ) : Type 0 where
  pub room : 24 ≤ length bytes
  pub magic : take 4 bytes ≡ magic_bytes endian resolution

-- the two numbers of 16 bits behind it are 2 and 4, in the byte order that the spelling says
abbrev pub HasVersion : Endian → List ℕ → Type 0
HasVersion Big bytes = (big_number 2 (drop 4 bytes) ≡ 2) × (big_number 2 (drop 6 bytes) ≡ 4)
HasVersion Little bytes = (little_number 2 (drop 4 bytes) ≡ 2) × (little_number 2 (drop 6 bytes) ≡ 4)

-- the number of 32 bits at 20, in that byte order
abbrev pub link_of : Endian → List ℕ → ℕ
link_of Big bytes = big_number 4 (drop 20 bytes)
link_of Little bytes = little_number 4 (drop 20 bytes)

-- one of the spellings, and another version
pub record HasOtherVersion (bytes : List ℕ) : Type 0 where
  pub endian : Endian
  pub resolution : Resolution
  pub magic : HasMagic endian resolution bytes
  pub other : HasVersion endian bytes → ⊥

-- one of the spellings, the version, and a link type that isn't 1
pub record HasOtherLink (n : ℕ) (bytes : List ℕ) : Type 0 where
  pub endian : Endian
  pub resolution : Resolution
  pub magic : HasMagic endian resolution bytes
  pub version : HasVersion endian bytes
  pub link : link_of endian bytes ≡ n
  pub other : n ≢ 1

-- this spelling, the version, and link type 1
pub record HasNoFault (format : Format) (bytes : List ℕ) : Type 0 where
  pub magic : HasMagic format.endian format.resolution bytes
  pub version : HasVersion format.endian bytes
  pub link : link_of format.endian bytes ≡ 1

-- none of the faults
pub record HasNoneOfThese (bytes : List ℕ) : Type 0 where
  pub short : (n : ℕ) → IsShort n bytes → ⊥
  pub no_magic : HasNoMagic bytes → ⊥
  pub version : HasOtherVersion bytes → ⊥
  pub link : (n : ℕ) → HasOtherLink n bytes → ⊥
