-- What is answered of a whole file.
use Rattle.std.proofs.Common.{◌≡◌, ℕ, zero, suc, ◌+◌, Bool, true, false, cond, eqb, ltb, List, length, drop, Option, Some, None, Result, Ok, Err, refl}
use Rattle.std.specs.Option.{option_map_or}
use Rattle.ng_base.specs.declared.ids.Stamp.{Stamp}
use Rattle.ng_pcap.specs.declared.capture.Capture.{Capture}
use Rattle.ng_pcap.specs.declared.fault.CaptureFault.{CaptureFault}
use Rattle.ng_pcap.specs.declared.fault.CaptureFault.TheVariants.{ShortHeader, NoMagic, BadVersion, BadLink, TooLong, NoMemory}
use Rattle.ng_pcap.specs.declared.format.Format.{Format}
use Rattle.ng_pcap.specs.declared.reader.PacketHead.{PacketHead}
use Rattle.ng_pcap.specs.Format.{format_of}
use Rattle.ng_pcap.specs.Reading.{◌>>=◌, IsAnswer, IsUnlessNoMemory, capture_of, count_of, count_in, no_more_packets, head_of, packet_head, packets, rest_of_head, with_packet}

-- a file's head is read without memory
tests_take_none : (a b : Bool) (link : ℕ) (format : Format) (first : CaptureFault) → first ≡ BadVersion
    → cond a (Err first) (cond b (Err (BadLink link)) (Ok format)) ≡ Err NoMemory → ⊥
tests_take_none true b link format first e h = cc (e, h)
tests_take_none false true link format first e h = cc h
tests_take_none false false link format first e h = cc h

rest_takes_none : (bytes : List ℕ) (found : Option Format) → rest_of_head bytes found ≡ Err NoMemory → ⊥
rest_takes_none bytes None h = cc h
rest_takes_none bytes (Some format) h = tests_take_none _ _ _ format BadVersion refl h

short_takes_none : (short : Bool) (n : ℕ) (rest : Result Format CaptureFault) → (rest ≡ Err NoMemory → ⊥)
    → cond short (Err (ShortHeader n)) rest ≡ Err NoMemory → ⊥
short_takes_none true n rest none h = cc h
short_takes_none false n rest none h = none h

head_takes_none : (bytes : List ℕ) → head_of bytes ≡ Err NoMemory → ⊥
unfolding head_of
head_takes_none bytes h =
    short_takes_none (ltb (length bytes) 24) (length bytes) (rest_of_head bytes (format_of bytes)) (rest_takes_none bytes (format_of bytes)) h

-- nor does any definition of what bytes are read as say that there is none
bound_takes_none : {A B : Type 0} (r : Result A CaptureFault) (f : A → Result B CaptureFault)
    → (r ≡ Err NoMemory → ⊥) → ((x : A) → f x ≡ Err NoMemory → ⊥) → (r >>= f) ≡ Err NoMemory → ⊥
bound_takes_none (Ok x) f none after h = after x h
bound_takes_none (Err fault) f none after h = none (cc h)

packet_head_tests_take_none : (a b c : Bool) (place n : ℕ) (head : PacketHead)
    → cond a (Ok None) (cond b (Err (TooLong place n)) (cond c (Ok None) (Ok (Some head)))) ≡ Err NoMemory → ⊥
packet_head_tests_take_none true b c place n head h = cc h
packet_head_tests_take_none false true c place n head h = cc h
packet_head_tests_take_none false false true place n head h = cc h
packet_head_tests_take_none false false false place n head h = cc h

packet_head_takes_none : (format : Format) (place : ℕ) (left : List ℕ) → packet_head format place left ≡ Err NoMemory → ⊥
unfolding packet_head
packet_head_takes_none format place left h = packet_head_tests_take_none _ _ _ place _ _ h

with_packet_takes_none : (packet : Stamp × List ℕ) (behind : Result Capture CaptureFault)
    → (behind ≡ Err NoMemory → ⊥) → with_packet packet behind ≡ Err NoMemory → ⊥
with_packet_takes_none packet (Ok capture) none h = cc h
with_packet_takes_none packet (Err fault) none h = none (cc h)

no_more_takes_none : (b : Bool) (cut : Option ℕ) (read : Result Capture CaptureFault) → (read ≡ Err NoMemory → ⊥)
    → cond b (no_more_packets cut) read ≡ Err NoMemory → ⊥
no_more_takes_none true cut read none h = cc h
no_more_takes_none false cut read none h = none h

cut_takes_none : (found : Option PacketHead) (place : ℕ) (f : PacketHead → Result Capture CaptureFault)
    → ((head : PacketHead) → f head ≡ Err NoMemory → ⊥)
    → option_map_or f found (no_more_packets (Some place)) ≡ Err NoMemory → ⊥
cut_takes_none None place f none h = cc h
cut_takes_none (Some head) place f none h = none head h

packets_take_none : (turns : ℕ) (format : Format) (place : ℕ) (left : List ℕ) → packets turns format place left ≡ Err NoMemory → ⊥
unfolding packets
packets_take_none zero format place left h = cc h
packets_take_none (suc turns) format place left h =
    no_more_takes_none (eqb (length left) 0) None _
    (bound_takes_none (packet_head format place left) _ (packet_head_takes_none format place left)
    (λ found. cut_takes_none found place _
    (λ head. with_packet_takes_none _ _ (packets_take_none turns format (place + 16 + head.len) (drop head.len (drop 16 left))))))
    h

pub capture_takes_none : (bytes : List ℕ) → capture_of bytes ≡ Err NoMemory → ⊥
unfolding capture_of
capture_takes_none bytes h =
    bound_takes_none (head_of bytes) (λ format. packets (length bytes) format 24 (drop 24 bytes)) (head_takes_none bytes)
    (λ format. packets_take_none (length bytes) format 24 (drop 24 bytes)) h

pub capture_of-fault : (bytes : List ℕ) (fault : CaptureFault) → head_of bytes ≡ Err fault → capture_of bytes ≡ Err fault
unfolding capture_of
capture_of-fault bytes fault h = rw h refl

capture_of-packets : (bytes : List ℕ) (format : Format) (read : Result Capture CaptureFault)
    → head_of bytes ≡ Ok format → packets (length bytes) format 24 (drop 24 bytes) ≡ read → capture_of bytes ≡ read
unfolding capture_of
capture_of-packets bytes format read h same = rw h same

pub IsAnswer-fault : (bytes : List ℕ) (fault : CaptureFault) → head_of bytes ≡ Err fault → IsAnswer bytes (Err fault)
IsAnswer-fault bytes NoMemory h = absurd (head_takes_none bytes h)
IsAnswer-fault bytes (ShortHeader n) h = capture_of-fault bytes (ShortHeader n) h
IsAnswer-fault bytes NoMagic h = capture_of-fault bytes NoMagic h
IsAnswer-fault bytes BadVersion h = capture_of-fault bytes BadVersion h
IsAnswer-fault bytes (BadLink n) h = capture_of-fault bytes (BadLink n) h
IsAnswer-fault bytes (TooLong place n) h = capture_of-fault bytes (TooLong place n) h

pub IsAnswer-packets : (bytes : List ℕ) (format : Format) (answer : Result Capture CaptureFault)
    → head_of bytes ≡ Ok format → IsUnlessNoMemory (packets (length bytes) format 24 (drop 24 bytes)) answer → IsAnswer bytes answer
IsAnswer-packets bytes format (Ok capture) h read = capture_of-packets bytes format (Ok capture) h read
IsAnswer-packets bytes format (Err NoMemory) h read = rw h refl
IsAnswer-packets bytes format (Err (ShortHeader n)) h read = capture_of-packets bytes format (Err (ShortHeader n)) h read
IsAnswer-packets bytes format (Err NoMagic) h read = capture_of-packets bytes format (Err NoMagic) h read
IsAnswer-packets bytes format (Err BadVersion) h read = capture_of-packets bytes format (Err BadVersion) h read
IsAnswer-packets bytes format (Err (BadLink n)) h read = capture_of-packets bytes format (Err (BadLink n)) h read
IsAnswer-packets bytes format (Err (TooLong place n)) h read = capture_of-packets bytes format (Err (TooLong place n)) h read

pub counted_fault : (bytes : List ℕ) (fault : CaptureFault) → head_of bytes ≡ Err fault → count_of bytes ≡ Err fault
counted_fault bytes fault h = rw (capture_of-fault bytes fault h) refl

pub counted_packets : (bytes : List ℕ) (format : Format) → head_of bytes ≡ Ok format
    → count_of bytes ≡ count_in (packets (length bytes) format 24 (drop 24 bytes))
counted_packets bytes format h = rw (capture_of-packets bytes format (packets (length bytes) format 24 (drop 24 bytes)) h refl) refl
