-- The packets of a capture that is read: each came before 2^32 seconds, and none is too long, so they can be written.
use Rattle.std.proofs.Common.{◌≡◌, ℕ, zero, suc, ◌+◌, ◌*◌, ◌^◌, ◌≤◌, ◌<◌, Bool, true, false, cond, eqb, List, [], ◌∷◌, length, take, drop, Option, Some, None, Result, Ok, Err, refl, subst, arith}
use Rattle.std.specs.List.{AllByRecursion}
use Rattle.std.specs.Option.{option_map_or}
use Rattle.std.proofs.lemmas.Bool.{ltb-false}
use Rattle.std.proofs.lemmas.List.{length-take}
use Rattle.ng_base.specs.declared.ids.Stamp.{Stamp}
use Rattle.ng_base.specs.declared.packet.TheConstants.{MAX_PACKET_LEN}
use Rattle.ng_pcap.specs.declared.capture.Capture.{Capture}
use Rattle.ng_pcap.specs.declared.fault.CaptureFault.{CaptureFault}
use Rattle.ng_pcap.specs.declared.fault.CaptureFault.TheVariants.{TooLong}
use Rattle.ng_pcap.specs.declared.format.Resolution.{Resolution}
use Rattle.ng_pcap.specs.declared.format.Resolution.TheVariants.{Microseconds, Nanoseconds}
use Rattle.ng_pcap.specs.declared.format.Format.{Format}
use Rattle.ng_pcap.specs.declared.reader.PacketHead.{PacketHead}
use Rattle.ng_pcap.specs.Format.{number, stamp_of}
use Rattle.ng_pcap.specs.Reading.{◌>>=◌, capture_of, no_more_packets, head_of, packet_head, packets, with_packet}
use Rattle.ng_pcap.specs.Writing.{IsWritable}
use Rattle.ng_pcap.proofs.Found.{IsBytes, IsBytes-drop, number-lt}

-- the head of a packet
abbrev Good : PacketHead → Type 0
Good head = (head.stamp.0 < 2 ^ 32 * 1_000_000_000) × (head.len ≤ MAX_PACKET_LEN)

stamp_small : (resolution : Resolution) (seconds fraction : ℕ) → seconds < 4294967296
    → (stamp_of resolution seconds fraction).0 < 2 ^ 32 * 1_000_000_000
stamp_small Microseconds seconds fraction small = omega (arith, small)
stamp_small Nanoseconds seconds fraction small = omega (arith, small)

tests_good : (a b c : Bool) (place n : ℕ) (made head : PacketHead) → (b ≡ false → Good made)
    → cond a (Ok None) (cond b (Err (TooLong place n)) (cond c (Ok None) (Ok (Some made)))) ≡ Ok (Some head) → Good head
tests_good true b c place n made head good h = absurd (cc h)
tests_good false true c place n made head good h = absurd (cc h)
tests_good false false true place n made head good h = absurd (cc h)
tests_good false false false place n made head good h =
    let same : made ≡ head = cc h in subst (λ (x : PacketHead). Good x) same (good refl)

head_good : (format : Format) (place : ℕ) (left : List ℕ) (head : PacketHead) → IsBytes left → packet_head format place left ≡ Ok (Some head)
    → Good head
unfolding packet_head
head_good format place left head fits h =
    tests_good _ _ _ place _ _ head
    (λ few. (
      stamp_small format.resolution (number format.endian 4 0 left) (number format.endian 4 4 left) (number-lt format.endian 4 0 left fits),
      ltb-false MAX_PACKET_LEN (number format.endian 4 8 left) few,
    )) h

-- the packets
abbrev AllGood : Capture → Type 0
AllGood capture = AllByRecursion IsWritable capture.kept

none_good : (cut : Option ℕ) (capture : Capture) → no_more_packets cut ≡ Ok capture → AllGood capture
none_good cut capture h =
    let empty : capture.kept ≡ [] = cc h in rw empty tt

end_good : (b : Bool) (cut : Option ℕ) (read : Result Capture CaptureFault) (capture : Capture) → (read ≡ Ok capture → AllGood capture)
    → cond b (no_more_packets cut) read ≡ Ok capture → AllGood capture
end_good true cut read capture good h = none_good cut capture h
end_good false cut read capture good h = good h

bound_good : {A : Type 0} (r : Result A CaptureFault) (f : A → Result Capture CaptureFault) (capture : Capture)
    → ((x : A) → r ≡ Ok x → f x ≡ Ok capture → AllGood capture) → (r >>= f) ≡ Ok capture → AllGood capture
bound_good (Ok x) f capture good h = good x refl h
bound_good (Err fault) f capture good h = absurd (cc h)

cut_good : (found : Option PacketHead) (place : ℕ) (f : PacketHead → Result Capture CaptureFault) (capture : Capture)
    → ((head : PacketHead) → found ≡ Some head → f head ≡ Ok capture → AllGood capture)
    → option_map_or f found (no_more_packets (Some place)) ≡ Ok capture → AllGood capture
cut_good None place f capture good h = none_good (Some place) capture h
cut_good (Some head) place f capture good h = good head refl h

with_good : (packet : Stamp × List ℕ) (behind : Result Capture CaptureFault) (capture : Capture) → IsWritable packet
    → ((c : Capture) → behind ≡ Ok c → AllGood c) → with_packet packet behind ≡ Ok capture → AllGood capture
with_good packet (Ok c) capture one good h =
    let is : capture.kept ≡ packet ∷ c.kept = cc h in rw is (one, good c refl)
with_good packet (Err fault) capture one good h = absurd (cc h)

packet_good : (head : PacketHead) (text : List ℕ) → Good head → IsWritable (head.stamp, take head.len text)
packet_good head text good = record {
  in_seconds = good.0;
  in_length = omega (arith, length-take head.len text, good.1);
}

packets_good : (turns : ℕ) (format : Format) (place : ℕ) (left : List ℕ) (capture : Capture) → IsBytes left
    → packets turns format place left ≡ Ok capture → AllGood capture
unfolding packets
packets_good zero format place left capture fits h = none_good None capture h
packets_good (suc turns) format place left capture fits h =
    end_good (eqb (length left) 0) None _ capture
    (bound_good (packet_head format place left) _ capture
    (λ found is. cut_good found place _ capture
    (λ head at. with_good _ _ capture
    (packet_good head (drop 16 left) (head_good format place left head fits (subst (λ (o : Option PacketHead). packet_head format place left ≡ Ok o) at is)))
    (λ c. packets_good turns format (place + 16 + head.len) (drop head.len (drop 16 left)) c (IsBytes-drop head.len (drop 16 left) (IsBytes-drop 16 left fits))))))
    h

pub kept_good : (bytes : List ℕ) (capture : Capture) → IsBytes bytes → capture_of bytes ≡ Ok capture → AllByRecursion IsWritable capture.kept
unfolding capture_of
kept_good bytes capture fits h =
    bound_good (head_of bytes) (λ format. packets (length bytes) format 24 (drop 24 bytes)) capture
    (λ format is. packets_good (length bytes) format 24 (drop 24 bytes) capture (IsBytes-drop 24 bytes fits)) h
