-- What is written is spelled, and so it is read back.
use Rattle.std.proofs.Common.{◌≡◌, ℕ, ◌+◌, ◌-◌, ◌*◌, ◌/◌, ◌%◌, min, List, [], ◌∷◌, ◌++◌, map, None, Ok, refl, sym, ap, ◌∙◌, arith}
use Rattle.std.specs.List.{flat_map, AllByRecursion}
use Rattle.std.proofs.lemmas.List.{append-nil}
use Rattle.ng_base.specs.declared.ids.Stamp.{Stamp}
use Rattle.ng_pcap.specs.declared.format.Endian.TheVariants.{Little}
use Rattle.ng_pcap.specs.declared.format.Resolution.TheVariants.{Nanoseconds}
use Rattle.ng_pcap.specs.Format.{stamp_of}
use Rattle.ng_pcap.specs.Reading.{capture_of}
use Rattle.ng_pcap.specs.Spelling.{Entry, IsEntry, entries_bytes, kept_of, text_of}
use Rattle.ng_pcap.specs.Writing.{IsWritable, entry_to_write, head_to_write, written_file, written_head, written_packet}
use Rattle.ng_pcap.proofs.Spelled.{ends_whole}

abbrev entries_of : List (Stamp × List ℕ) → List Entry
entries_of packets = map (λ packet. entry_to_write packet.0 packet.1) packets

are_entries : (packets : List (Stamp × List ℕ)) → AllByRecursion IsWritable packets → AllByRecursion IsEntry (entries_of packets)
are_entries [] fits = tt
are_entries (packet ∷ packets) fits =
    let stamp = fits.0.in_seconds in
    let len = fits.0.in_length in
    (record { seconds = omega arith; fraction = omega arith; original = omega arith; packet = len }, are_entries packets fits.1)

same_bytes : (packets : List (Stamp × List ℕ))
    → flat_map (λ packet. written_packet packet.0 packet.1) packets ≡ entries_bytes Little (entries_of packets)
same_bytes [] = refl
same_bytes (packet ∷ packets) = ap (λ (others : List ℕ). written_packet packet.0 packet.1 ++ others) (same_bytes packets)

-- whole seconds and the rest make up a time
same_time : (n : ℕ) → n / 1_000_000_000 * 1_000_000_000 + min (n % 1_000_000_000) (1_000_000_000 - 1) * 1 ≡ n
same_time n = omega arith

same_packets : (packets : List (Stamp × List ℕ)) → kept_of Nanoseconds (entries_of packets) ≡ packets
same_packets [] = refl
same_packets (packet ∷ packets) =
    let first : (stamp_of Nanoseconds (packet.0.0 / 1_000_000_000) (packet.0.0 % 1_000_000_000), packet.1) ≡ packet =
    ap (λ (n : ℕ). (record { 0 = n }, packet.1)) (same_time packet.0.0) in
    ap (λ (p : Stamp × List ℕ). p ∷ kept_of Nanoseconds (entries_of packets)) first
    ∙ ap (λ (others : List (Stamp × List ℕ)). packet ∷ others) (same_packets packets)

pub read_back : (packets : List (Stamp × List ℕ)) → AllByRecursion IsWritable packets
    → capture_of (written_file packets) ≡ Ok (record { kept = packets; cut = None })
read_back packets fits =
    let text : List ℕ = text_of head_to_write (entries_of packets) in
    let spelled : written_file packets ≡ text ++ [] =
    ap (λ (others : List ℕ). written_head ++ others) (same_bytes packets)
    ∙ sym (append-nil text) in
    ap capture_of spelled
    ∙ ends_whole head_to_write (entries_of packets) (are_entries packets fits)
    ∙ ap (λ (kept : List (Stamp × List ℕ)). Ok (record { kept = kept; cut = None })) (same_packets packets)
