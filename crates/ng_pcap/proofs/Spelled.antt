-- What is spelled is read.
use Rattle.std.proofs.Common.{◌≡◌, ℕ, zero, suc, ◌+◌, ◌≤◌, ◌<◌, Bool, true, false, cond, ltb, List, [], ◌∷◌, ◌++◌, length, take, drop, Some, None, Result, Ok, Err, inl, inr, refl, sym, ap, ◌∙◌, append_assoc, add-zero, arith}
use Rattle.std.specs.List.{AllByRecursion}
use Rattle.std.proofs.lemmas.Bool.{le-ltb, lt-ltb}
use Rattle.std.proofs.lemmas.List.{length-append, take_at, drop_at}
use Rattle.byteorder.specs.Numbers.{big_number-reads_back, little_number-reads_back}
use Rattle.ng_base.specs.declared.ids.Stamp.{Stamp}
use Rattle.ng_base.specs.declared.packet.TheConstants.{MAX_PACKET_LEN}
use Rattle.ng_pcap.specs.declared.capture.Capture.{Capture}
use Rattle.ng_pcap.specs.declared.fault.CaptureFault.{CaptureFault}
use Rattle.ng_pcap.specs.declared.fault.CaptureFault.TheVariants.{TooLong}
use Rattle.ng_pcap.specs.declared.format.Endian.{Endian}
use Rattle.ng_pcap.specs.declared.format.Endian.TheVariants.{Big, Little}
use Rattle.ng_pcap.specs.declared.format.Resolution.{Resolution}
use Rattle.ng_pcap.specs.declared.format.Resolution.TheVariants.{Microseconds, Nanoseconds}
use Rattle.ng_pcap.specs.declared.format.Format.{Format}
use Rattle.ng_pcap.specs.declared.reader.PacketHead.{PacketHead}
use Rattle.ng_pcap.specs.Format.{format_of, number, stamp_of}
use Rattle.ng_pcap.specs.Reading.{capture_of, with_packet, head_of, rest_of_head, packet_head, packets}
use Rattle.ng_pcap.specs.Spelling.{Head, Entry, IsCut, IsEntry, IsTooLong, entries_bytes, entry_bytes, head_bytes, kept_of, text_of}
use Rattle.ng_pcap.proofs.Packets.{packets-cut, packets-fault, packets-none, packets-packet, with_prefix, with_prefix-no_more_packets, with_prefix-nil}

-- what stands where in the bytes of an entry and a rest
record Fields (endian : Endian) (entry : Entry) (rest text : List ℕ) : Type 0 where
  seconds : number endian 4 0 text ≡ entry.seconds
  fraction : number endian 4 4 text ≡ entry.fraction
  kept : number endian 4 8 text ≡ length entry.packet
  behind : drop 16 text ≡ entry.packet ++ rest
  size : length text ≡ 16 + length (entry.packet ++ rest)

fields_of : (endian : Endian) (entry : Entry) (rest : List ℕ) → IsEntry entry
    → Fields endian entry rest (entry_bytes endian entry ++ rest)
fields_of Big entry rest fits =
    let text : List ℕ = entry_bytes Big entry ++ rest in
    record {
      seconds = big_number-reads_back 4 entry.seconds (drop 4 text) fits.seconds;
      fraction = big_number-reads_back 4 entry.fraction (drop 8 text) fits.fraction;
      kept = big_number-reads_back 4 (length entry.packet) (drop 12 text) (omega (arith, fits.packet));
      behind = refl;
      size = omega arith;
    }
fields_of Little entry rest fits =
    let text : List ℕ = entry_bytes Little entry ++ rest in
    record {
      seconds = little_number-reads_back 4 entry.seconds (drop 4 text) fits.seconds;
      fraction = little_number-reads_back 4 entry.fraction (drop 8 text) fits.fraction;
      kept = little_number-reads_back 4 (length entry.packet) (drop 12 text) (omega (arith, fits.packet));
      behind = refl;
      size = omega arith;
    }

packet_head-entry : (format : Format) (place : ℕ) (entry : Entry) (rest text : List ℕ) → IsEntry entry
    → Fields format.endian entry rest text
    → packet_head format place text ≡ Ok (Some (record { stamp = stamp_of format.resolution entry.seconds entry.fraction; len = length entry.packet }))
unfolding packet_head
packet_head-entry format place entry rest text fits fields =
    let room : ltb (length text) 16 ≡ false = le-ltb _ _ (omega (arith, fields.size)) in
    let short : ltb MAX_PACKET_LEN (length entry.packet) ≡ false = le-ltb _ _ fits.packet in
    let whole : ltb (length text) (16 + length entry.packet) ≡ false =
    le-ltb _ _ (omega (arith, fields.size, length-append entry.packet rest)) in
    rw (fields.seconds, fields.fraction, fields.kept, room, short, whole) refl

packet_head-short : (format : Format) (place : ℕ) (rest : List ℕ) → length rest < 16 → packet_head format place rest ≡ Ok None
unfolding packet_head
packet_head-short format place rest short = rw (lt-ltb _ _ short) refl

same_either_way : {A : Type 0} (b : Bool) (x y : A) → x ≡ y → cond b x y ≡ x
same_either_way true x y e = refl
same_either_way false x y e = sym e

packet_head-ends : (format : Format) (place : ℕ) (rest : List ℕ) → number format.endian 4 8 rest ≤ MAX_PACKET_LEN
    → length rest < 16 + number format.endian 4 8 rest → packet_head format place rest ≡ Ok None
unfolding packet_head
packet_head-ends format place rest low short =
    let fits : ltb MAX_PACKET_LEN (number format.endian 4 8 rest) ≡ false = le-ltb _ _ low in
    let ends : ltb (length rest) (16 + number format.endian 4 8 rest) ≡ true = lt-ltb _ _ short in
    rw (fits, ends) (same_either_way (ltb (length rest) 16) _ _ refl)

packet_head-cut : (format : Format) (place : ℕ) (rest : List ℕ) → IsCut format.endian rest
    → packet_head format place rest ≡ Ok None
packet_head-cut format place rest (some, inl short) = packet_head-short format place rest short
packet_head-cut format place rest (some, inr (low, short)) = packet_head-ends format place rest low short

packet_head-long : (format : Format) (place : ℕ) (rest : List ℕ) → IsTooLong format.endian rest
    → packet_head format place rest ≡ Err (TooLong place (number format.endian 4 8 rest))
unfolding packet_head
packet_head-long format place rest (room, high) =
    let whole : ltb (length rest) 16 ≡ false = le-ltb _ _ room in
    let long : ltb MAX_PACKET_LEN (number format.endian 4 8 rest) ≡ true = lt-ltb _ _ high in
    rw (whole, long) refl

length-entry_bytes : (endian : Endian) (entry : Entry) → length (entry_bytes endian entry) ≡ 16 + length entry.packet
length-entry_bytes Big entry = omega arith
length-entry_bytes Little entry = omega arith

with_packet-with_prefix : (packet : Stamp × List ℕ) (prefix : List (Stamp × List ℕ)) (read : Result Capture CaptureFault)
    → with_packet packet (with_prefix prefix read) ≡ with_prefix (packet ∷ prefix) read
with_packet-with_prefix packet prefix (Ok capture) = refl
with_packet-with_prefix packet prefix (Err fault) = refl

-- the packets are kept, and for the rest as many turns are left as are enough
record Reaches (turns : ℕ) (format : Format) (place : ℕ) (entries : List Entry) (rest : List ℕ) : Type 0 where
  more : ℕ
  enough : length rest ≤ more
  same : packets turns format place (entries_bytes format.endian entries ++ rest)
      ≡ with_prefix (kept_of format.resolution entries) (packets more format (place + length (entries_bytes format.endian entries)) rest)

-- one packet, and then the others
reaches_one : (entry : Entry) (entries : List Entry) (turns : ℕ) (format : Format) (place : ℕ) (rest : List ℕ) → IsEntry entry
    → Reaches turns format (place + 16 + length entry.packet) entries rest → Reaches (suc turns) format place (entry ∷ entries) rest
reaches_one entry entries turns format place rest fits others =
    let behind : List ℕ = entries_bytes format.endian entries ++ rest in
    let text : List ℕ = entry_bytes format.endian entry ++ behind in
    let fields = fields_of format.endian entry behind fits in
    let head : PacketHead =
    record { stamp = stamp_of format.resolution entry.seconds entry.fraction; len = length entry.packet } in
    let turn =
    packets-packet turns format place text head (omega (arith, fields.size)) (packet_head-entry format place entry behind text fits fields) in
    let packet : take (length entry.packet) (drop 16 text) ≡ entry.packet =
    rw fields.behind (take_at entry.packet behind (length entry.packet) refl) in
    let after : drop (length entry.packet) (drop 16 text) ≡ behind =
    rw fields.behind (drop_at entry.packet behind (length entry.packet) refl) in
    let place_is : place + 16 + length entry.packet + length (entries_bytes format.endian entries) ≡ place + length
    (entries_bytes format.endian (entry ∷ entries)) =
    omega (arith, length-append (entry_bytes format.endian entry) (entries_bytes format.endian entries), length-entry_bytes format.endian entry) in
    record {
      more = others.more;
      enough = others.enough;
      same =
          ap (packets (suc turns) format place) (append_assoc (entry_bytes format.endian entry) (entries_bytes format.endian entries) rest)
          ∙ turn
          ∙ rw (packet, after, others.same)
          (with_packet-with_prefix (head.stamp, entry.packet) (kept_of format.resolution entries)
          (packets others.more format (place + 16 + length entry.packet + length (entries_bytes format.endian entries)) rest))
          ∙ ap (λ (at : ℕ). with_prefix (kept_of format.resolution (entry ∷ entries)) (packets others.more format at rest)) place_is;
    }

reaches : (entries : List Entry) (turns : ℕ) (format : Format) (place : ℕ) (rest : List ℕ) → AllByRecursion IsEntry entries
    → length (entries_bytes format.endian entries ++ rest) ≤ turns → Reaches turns format place entries rest
reaches [] turns format place rest fits enough = record {
  more = turns;
  enough = enough;
  same =
      ap (λ (at : ℕ). packets turns format at rest) (sym (add-zero place))
      ∙ sym (with_prefix-nil (packets turns format (place + 0) rest));
}
reaches (entry ∷ entries) zero format place rest fits enough =
    absurd
    (omega (
      arith,
      length-append (entries_bytes format.endian (entry ∷ entries)) rest,
      length-append (entry_bytes format.endian entry) (entries_bytes format.endian entries),
      length-entry_bytes format.endian entry,
    ))
reaches (entry ∷ entries) (suc turns) format place rest fits enough =
    let room : length (entries_bytes format.endian entries ++ rest) ≤ turns =
    omega (
      arith,
      length-append (entries_bytes format.endian (entry ∷ entries)) rest,
      length-append (entry_bytes format.endian entry) (entries_bytes format.endian entries),
      length-append (entries_bytes format.endian entries) rest,
      length-entry_bytes format.endian entry,
    ) in
    reaches_one entry entries turns format place rest fits.0 (reaches entries turns format (place + 16 + length entry.packet) rest fits.1 room)

-- the head
head_of-long : (bytes : List ℕ) → 24 ≤ length bytes → head_of bytes ≡ rest_of_head bytes (format_of bytes)
unfolding head_of
head_of-long bytes long = rw (le-ltb (length bytes) 24 long) refl

head_read : (endian : Endian) (resolution : Resolution) (zone accuracy longest : ℕ) (rest : List ℕ)
    → head_of
    (head_bytes (record { format = record { endian = endian; resolution = resolution }; zone = zone; accuracy = accuracy; longest = longest }) ++ rest)
    ≡ Ok (record { endian = endian; resolution = resolution })
head_read Big Microseconds zone accuracy longest rest =
    head_of-long
    (head_bytes (record { format = record { endian = Big; resolution = Microseconds }; zone = zone; accuracy = accuracy; longest = longest }) ++ rest)
    (omega arith)
head_read Big Nanoseconds zone accuracy longest rest =
    head_of-long
    (head_bytes (record { format = record { endian = Big; resolution = Nanoseconds }; zone = zone; accuracy = accuracy; longest = longest }) ++ rest)
    (omega arith)
head_read Little Microseconds zone accuracy longest rest =
    head_of-long
    (head_bytes (record { format = record { endian = Little; resolution = Microseconds }; zone = zone; accuracy = accuracy; longest = longest }) ++ rest)
    (omega arith)
head_read Little Nanoseconds zone accuracy longest rest =
    head_of-long
    (head_bytes (record { format = record { endian = Little; resolution = Nanoseconds }; zone = zone; accuracy = accuracy; longest = longest }) ++ rest)
    (omega arith)

head_of-head_bytes : (head : Head) (rest : List ℕ) → head_of (head_bytes head ++ rest) ≡ Ok head.format
head_of-head_bytes head rest = head_read head.format.endian head.format.resolution head.zone head.accuracy head.longest rest

head_len : (endian : Endian) (resolution : Resolution) (zone accuracy longest : ℕ)
    → length
    (head_bytes (record { format = record { endian = endian; resolution = resolution }; zone = zone; accuracy = accuracy; longest = longest })) ≡ 24
head_len Big Microseconds zone accuracy longest = refl
head_len Big Nanoseconds zone accuracy longest = refl
head_len Little Microseconds zone accuracy longest = refl
head_len Little Nanoseconds zone accuracy longest = refl

pub length-head_bytes : (head : Head) → length (head_bytes head) ≡ 24
length-head_bytes head = head_len head.format.endian head.format.resolution head.zone head.accuracy head.longest

-- the head and the packets are read, and for the rest as many turns are left as are enough
pub record Begins (head : Head) (entries : List Entry) (rest : List ℕ) : Type 0 where
  pub more : ℕ
  pub enough : length rest ≤ more
  pub same : capture_of (text_of head entries ++ rest)
      ≡ with_prefix (kept_of head.format.resolution entries) (packets more head.format (length (text_of head entries)) rest)

pub begins : (head : Head) (entries : List Entry) (rest : List ℕ) → AllByRecursion IsEntry entries → Begins head entries rest
unfolding capture_of
begins head entries rest fits =
    let behind : List ℕ = entries_bytes head.format.endian entries ++ rest in
    let all : List ℕ = head_bytes head ++ behind in
    let parts : text_of head entries ++ rest ≡ all =
    append_assoc (head_bytes head) (entries_bytes head.format.endian entries) rest in
    let len : length (text_of head entries) ≡ 24 + length (entries_bytes head.format.endian entries) =
    omega (arith, length-append (head_bytes head) (entries_bytes head.format.endian entries), length-head_bytes head) in
    let room : length behind ≤ length all = omega (arith, length-append (head_bytes head) behind) in
    let far = reaches entries (length all) head.format 24 rest fits room in
    record {
      more = far.more;
      enough = far.enough;
      same =
          ap capture_of parts
          ∙ rw (head_of-head_bytes head behind, drop_at (head_bytes head) behind 24 (length-head_bytes head))
          (far.same ∙ ap (λ (at : ℕ). with_prefix (kept_of head.format.resolution entries) (packets far.more head.format at rest)) (sym len));
    }

-- how the rest ends it
pub ends_whole : (head : Head) (entries : List Entry) → AllByRecursion IsEntry entries
    → capture_of (text_of head entries ++ []) ≡ Ok (record { kept = kept_of head.format.resolution entries; cut = None })
ends_whole head entries fits =
    let read = begins head entries [] fits in
    read.same
    ∙ ap (with_prefix (kept_of head.format.resolution entries)) (packets-none read.more head.format (length (text_of head entries)) [] refl)
    ∙ with_prefix-no_more_packets (kept_of head.format.resolution entries) None

pub ends_cut : (head : Head) (entries : List Entry) (rest : List ℕ) → AllByRecursion IsEntry entries
    → IsCut head.format.endian rest
    → capture_of (text_of head entries ++ rest) ≡ Ok (record { kept = kept_of head.format.resolution entries; cut = Some (length (text_of head entries)) })
ends_cut head entries rest fits cut =
    let read = begins head entries rest fits in
    let place : ℕ = length (text_of head entries) in
    read.same
    ∙ ap (with_prefix (kept_of head.format.resolution entries))
    (packets-cut read.more head.format place rest cut.0 read.enough (packet_head-cut head.format place rest cut))
    ∙ with_prefix-no_more_packets (kept_of head.format.resolution entries) (Some place)

pub ends_too_long : (head : Head) (entries : List Entry) (rest : List ℕ) → AllByRecursion IsEntry entries
    → IsTooLong head.format.endian rest
    → capture_of (text_of head entries ++ rest) ≡ Err (TooLong (length (text_of head entries)) (number head.format.endian 4 8 rest))
ends_too_long head entries rest fits long =
    let read = begins head entries rest fits in
    let place : ℕ = length (text_of head entries) in
    let some : 0 < length rest = omega (arith, long.0) in
    read.same
    ∙ ap (with_prefix (kept_of head.format.resolution entries))
    (packets-fault read.more head.format place rest (TooLong place (number head.format.endian 4 8 rest)) some read.enough
    (packet_head-long head.format place rest long))
