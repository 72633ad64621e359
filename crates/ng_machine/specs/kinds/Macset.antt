-- macset: frames that come by all go out of known where their source is in a set of addresses, and out of other where it
-- isn't; what comes by these two goes out of all. The type is this project's own.
use Rattle.std.specs.Prelude.{ℕ, ◌%◌, Bool, not, ◌==◌, nat_lt, nat_le, if◌then◌else◌, List, [], ◌∷◌, ◌++◌, length, slice_index, slice_range}
use Rattle.std.specs.List.{filter, flat_map}
use Rattle.std.specs.Str.{bytes_eq}
use Rattle.byteorder.specs.Endian.{little_bytes, big_number}
use Rattle.ng_base.specs.declared.errno.Errno.{Errno}
use Rattle.ng_base.specs.Names.{has_name}
use Rattle.ng_machine.specs.declared.body.Door.{Door}
use Rattle.ng_machine.specs.declared.body.Door.TheVariants.{Wire, Hook}
use Rattle.ng_machine.specs.declared.outcome.Outcome.{Outcome}
use Rattle.ng_machine.specs.Errors.{einval, enoent, eexist, enfile}
use Rattle.ng_machine.specs.Names.{all_hook, known_hook, other_hook}
use Rattle.ng_machine.specs.Counters.{Count, zeros, raise_at, row_bytes}
use Rattle.ng_machine.specs.Outcome.{nothing, sends_by, fails, Reply, sets, answers, with_length, unless, by_number}

-- the addresses in order, and the counters knownFrames and otherFrames, which stay when a hook is cut
pub record Macset : Type 0 where
  pub addresses : List (List ℕ)
  pub counters : List ℕ

abbrev pub blank_macset : Macset
blank_macset = record { addresses = []; counters = zeros 2 }

abbrev pub most_addresses : ℕ
most_addresses = 4096

-- an address of a group of stations (IEEE 802): the lowest bit of its first byte
abbrev pub is_group : List ℕ → Bool
is_group address = slice_index address 0 % 2 == 1

abbrev pub has_address : List (List ℕ) → List ℕ → Bool
has_address addresses address = has_name addresses address

-- Packets

abbrev pub source_of : List ℕ → List ℕ
source_of frame = slice_range frame 6 12

-- out of a hook, with the counter of this number, where it is there
abbrev pub goes_by : List (List ℕ) → List ℕ → ℕ → List ℕ → List ℕ → Outcome
goes_by hooks out number hook frame =
    if has_name hooks out
    then record nothing { sends = (out, frame) ∷ []; counts = (hook, number, 1) ∷ [] }
    else nothing

abbrev pub sifts : List (List ℕ) → List (List ℕ) → List ℕ → List ℕ → Outcome
sifts hooks addresses hook frame =
    if nat_lt (length frame) 14 then fails einval
    else if has_address addresses (source_of frame) then goes_by hooks known_hook 0 hook frame
    else goes_by hooks other_hook 1 hook frame

abbrev pub picks : List (List ℕ) → List (List ℕ) → Door → List ℕ → Outcome
picks hooks addresses (Hook hook) frame = if bytes_eq hook all_hook then sifts hooks addresses hook frame else sends_by hooks all_hook frame
picks hooks addresses Wire frame = nothing

abbrev pub count_macset : Macset → Count → Macset
count_macset s c = record s { counters = raise_at s.counters c.1 c.2 }

-- Messages

-- addresses are in order of the numbers that they write
abbrev pub put_address : List ℕ → List (List ℕ) → List (List ℕ)
put_address a [] = a ∷ []
put_address a (b ∷ addresses) = if nat_lt (big_number 6 a) (big_number 6 b) then a ∷ b ∷ addresses else b ∷ put_address a addresses

abbrev pub address_refusals : Macset → List ℕ → List (Bool × Errno)
address_refusals s address =
    (is_group address, einval)
    ∷ (has_address s.addresses address, eexist)
    ∷ (nat_le most_addresses (length s.addresses), enfile)
    ∷ []

abbrev pub with_address : Macset → List ℕ → Macset
with_address s address = record s { addresses = put_address address s.addresses }

abbrev pub add_address : Macset → List ℕ → Reply Macset
add_address s address = unless s (address_refusals s address) (sets (with_address s address))

abbrev pub delete_address_refusals : Macset → List ℕ → List (Bool × Errno)
delete_address_refusals s address =
    (not (has_address s.addresses address), enoent) ∷ []

abbrev pub without_address : Macset → List ℕ → Macset
without_address s address = record s { addresses = filter (λ other. not (bytes_eq other address)) s.addresses }

abbrev pub delete_address : Macset → List ℕ → Reply Macset
delete_address s address = unless s (delete_address_refusals s address) (sets (without_address s address))

abbrev pub addresses_bytes : List (List ℕ) → List ℕ
addresses_bytes addresses = little_bytes 4 (length addresses) ++ flat_map (λ address. address) addresses

-- add 1, del 2, gettable 3, getstats 4
abbrev pub macset_messages : Macset → List ℕ → List (ℕ × Reply Macset)
macset_messages s args =
    (1, with_length s 6 args (add_address s args))
    ∷ (2, with_length s 6 args (delete_address s args))
    ∷ (0x30000003, with_length s 0 args (answers s (addresses_bytes s.addresses)))
    ∷ (0x20000004, with_length s 0 args (answers s (row_bytes s.counters)))
    ∷ []

abbrev pub macset_message : Macset → ℕ → List ℕ → Reply Macset
macset_message s number args = by_number s number (macset_messages s args)
