-- What bytes are read as: a capture, or the first fault (pcap-savefile(5)).
use Rattle.std.specs.Prelude.{◌≡◌, ℕ, zero, suc, ◌+◌, ◌==◌, nat_lt, not, ◌&&◌, if◌then◌else◌, List, [], ◌∷◌, length, take, drop, Option, Some, None, Result, Ok, Err, IsOk, ⊤}
use Rattle.std.specs.Option.{option_map_or}
use Rattle.ng_base.specs.declared.ids.Stamp.{Stamp}
use Rattle.ng_base.specs.declared.packet.TheConstants.{MAX_PACKET_LEN}
use Rattle.ng_pcap.specs.declared.capture.Capture.{Capture}
use Rattle.ng_pcap.specs.declared.fault.CaptureFault.{CaptureFault}
use Rattle.ng_pcap.specs.declared.fault.CaptureFault.TheVariants.{ShortHeader, NoMagic, BadVersion, BadLink, TooLong, NoMemory}
use Rattle.ng_pcap.specs.declared.format.Format.{Format}
use Rattle.ng_pcap.specs.declared.reader.PacketHead.{PacketHead}
use Rattle.ng_pcap.specs.Format.{number, format_of, stamp_of}

infixl 10 ◌>>=◌
abbrev pub ◌>>=◌ : {A B : Type 0} → Result A CaptureFault → (A → Result B CaptureFault) → Result B CaptureFault
(Ok x) >>= f = f x
(Err e) >>= f = Err e

-- The file's head: the magic number at 0, the version's two parts at 4 and 6, the link type at 20. The zone at 8, the
-- accuracy at 12 and the longest kept length at 16 may be any numbers.
abbrev pub rest_of_head : List ℕ → Option Format → Result Format CaptureFault
rest_of_head bytes None = Err NoMagic
rest_of_head bytes (Some format) =
    if not (number format.endian 2 4 bytes == 2 && number format.endian 2 6 bytes == 4) then Err BadVersion
    else if not (number format.endian 4 20 bytes == 1) then Err (BadLink (number format.endian 4 20 bytes))
    else Ok format

unfoldable pub head_of : List ℕ → Result Format CaptureFault
head_of bytes =
    if nat_lt (length bytes) 24 then Err (ShortHeader (length bytes))
    else rest_of_head bytes (format_of bytes)

-- A packet's head: the seconds at 0, the fraction at 4, the kept length at 8. The original length at 12 may be any
-- number. There is none where the file's end cuts it, or the packet behind it.
unfoldable pub packet_head : Format → ℕ → List ℕ → Result (Option PacketHead) CaptureFault
packet_head format place left =
    let len = number format.endian 4 8 left in
    let stamp = stamp_of format.resolution (number format.endian 4 0 left) (number format.endian 4 4 left) in
    if nat_lt (length left) 16 then Ok None
    else if nat_lt MAX_PACKET_LEN len then Err (TooLong place len)
    else if nat_lt (length left) (16 + len) then Ok None
    else Ok (Some (record { stamp = stamp; len = len }))

-- no packets, and where they are cut
abbrev pub no_more_packets : Option ℕ → Result Capture CaptureFault
no_more_packets cut = Ok (record { kept = []; cut = cut })

-- a packet, and then what is behind it
abbrev pub with_packet : Stamp × List ℕ → Result Capture CaptureFault → Result Capture CaptureFault
with_packet packet behind = behind >>= λ capture. Ok (record { kept = packet ∷ capture.kept; cut = capture.cut })

-- The packets of what is left of a file from a place on, a packet a turn. A packet takes at least sixteen bytes, so as
-- many turns as bytes are enough.
unfoldable pub packets : ℕ → Format → ℕ → List ℕ → Result Capture CaptureFault
packets zero format place left = no_more_packets None
packets (suc turns) format place left =
    if length left == 0 then no_more_packets None
    else packet_head format place left >>= λ found. option_map_or (λ head.
    let text = drop 16 left in
    with_packet (head.stamp, take head.len text) (packets turns format (place + 16 + head.len) (drop head.len text)))
    found (no_more_packets (Some place))

-- the capture that a file's bytes are, or their first fault
unfoldable pub capture_of : List ℕ → Result Capture CaptureFault
capture_of bytes = head_of bytes >>= λ format. packets (length bytes) format 24 (drop 24 bytes)

-- how many packets there are in what is read, or its fault
abbrev pub count_in : Result Capture CaptureFault → Result ℕ CaptureFault
count_in read = read >>= λ capture. Ok (length capture.kept)

abbrev pub count_of : List ℕ → Result ℕ CaptureFault
count_of bytes = count_in (capture_of bytes)

-- what bytes are read as, or that there is no memory
abbrev pub IsUnlessNoMemory : Result Capture CaptureFault → Result Capture CaptureFault → Type 0
IsUnlessNoMemory read (Err NoMemory) = ⊤
IsUnlessNoMemory read answer = read ≡ answer

-- What is answered of a file's bytes: what they are read as; or that there is no memory, which comes only where the
-- file's head has no fault.
abbrev pub IsAnswer : List ℕ → Result Capture CaptureFault → Type 0
IsAnswer bytes (Err NoMemory) = IsOk (head_of bytes)
IsAnswer bytes answer = capture_of bytes ≡ answer
