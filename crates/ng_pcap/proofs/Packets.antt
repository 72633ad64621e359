-- Reading packets one after the other, as a loop does.
use Rattle.std.proofs.Common.{◌≡◌, ℕ, zero, suc, ◌-◌, ◌+◌, ◌≤◌, ◌<◌, false, eqb, List, [], ◌∷◌, ◌++◌, length, take, drop, Option, Some, None, Result, Ok, Err, refl, sym, ap, ◌∙◌, append_assoc, arith}
use Rattle.std.proofs.lemmas.Bool.{ne_eqb}
use Rattle.std.proofs.lemmas.List.{append-nil, drop-drop, length-append, length-drop}
use Rattle.ng_base.specs.declared.ids.Stamp.{Stamp}
use Rattle.ng_pcap.specs.declared.capture.Capture.{Capture}
use Rattle.ng_pcap.specs.declared.fault.CaptureFault.{CaptureFault}
use Rattle.ng_pcap.specs.declared.fault.CaptureFault.TheVariants.{ShortHeader, NoMagic, BadVersion, BadLink, TooLong, NoMemory}
use Rattle.ng_pcap.specs.declared.format.Format.{Format}
use Rattle.ng_pcap.specs.declared.reader.PacketHead.{PacketHead}
use Rattle.ng_pcap.specs.Reading.{◌>>=◌, IsUnlessNoMemory, count_in, no_more_packets, with_packet, packet_head, packets}

-- what was kept before, and what is still read
abbrev pub with_prefix : List (Stamp × List ℕ) → Result Capture CaptureFault → Result Capture CaptureFault
with_prefix prefix read = read >>= λ capture. Ok (record { kept = prefix ++ capture.kept; cut = capture.cut })

with_prefix-with_packet : (prefix : List (Stamp × List ℕ)) (packet : Stamp × List ℕ) (behind : Result Capture CaptureFault)
    → with_prefix prefix (with_packet packet behind) ≡ with_prefix (prefix ++ packet ∷ []) behind
with_prefix-with_packet prefix packet (Ok capture) =
    ap (λ (kept : List (Stamp × List ℕ)). Ok (record { kept = kept; cut = capture.cut })) (simp append_assoc)
with_prefix-with_packet prefix packet (Err fault) = refl

pub with_prefix-nil : (read : Result Capture CaptureFault) → with_prefix [] read ≡ read
with_prefix-nil (Ok capture) = refl
with_prefix-nil (Err fault) = refl

pub with_prefix-no_more_packets : (prefix : List (Stamp × List ℕ)) (cut : Option ℕ)
    → with_prefix prefix (no_more_packets cut) ≡ Ok (record { kept = prefix; cut = cut })
with_prefix-no_more_packets prefix cut =
    ap (λ (kept : List (Stamp × List ℕ)). Ok (record { kept = kept; cut = cut })) (append-nil prefix)

-- what a turn does
pub packets-none : (turns : ℕ) (format : Format) (place : ℕ) (left : List ℕ) → length left ≡ 0
    → packets turns format place left ≡ no_more_packets None
unfolding packets
packets-none zero format place left none = refl
packets-none (suc turns) format place left none = rw none refl

not_none : (left : List ℕ) → 0 < length left → eqb (length left) 0 ≡ false
not_none left some = ne_eqb (length left) 0 (λ none. omega arith)

pub packets-packet : (turns : ℕ) (format : Format) (place : ℕ) (left : List ℕ) (head : PacketHead) → 0 < length left
    → packet_head format place left ≡ Ok (Some head)
    → packets (suc turns) format place left ≡ with_packet (head.stamp, take head.len (drop 16 left))
    (packets turns format (place + 16 + head.len) (drop head.len (drop 16 left)))
unfolding packets
packets-packet turns format place left head some found = rw (not_none left some, found) refl

pub packets-cut : (turns : ℕ) (format : Format) (place : ℕ) (left : List ℕ) → 0 < length left → length left ≤ turns
    → packet_head format place left ≡ Ok None
    → packets turns format place left ≡ no_more_packets (Some place)
unfolding packets
packets-cut zero format place left some enough cut = absurd (omega arith)
packets-cut (suc turns) format place left some enough cut = rw (not_none left some, cut) refl

pub packets-fault : (turns : ℕ) (format : Format) (place : ℕ) (left : List ℕ) (fault : CaptureFault)
    → 0 < length left → length left ≤ turns → packet_head format place left ≡ Err fault
    → packets turns format place left ≡ Err fault
unfolding packets
packets-fault zero format place left fault some enough found = absurd (omega arith)
packets-fault (suc turns) format place left fault some enough found = rw (not_none left some, found) refl

-- what was kept so far and what is left of a file are what the file's packets are read as
pub record IsSoFar (format : Format) (bytes : List ℕ) (prefix : List (Stamp × List ℕ)) (left : List ℕ) : Type 0 where
  pub turns : ℕ
  pub enough : length left ≤ turns
  pub place : length left + 24 ≤ length bytes
  pub tail : left ≡ drop (length bytes - length left) bytes
  pub same : with_prefix prefix (packets turns format (length bytes - length left) left)
      ≡ packets (length bytes) format 24 (drop 24 bytes)

pub begins : (format : Format) (bytes left : List ℕ) → 24 ≤ length bytes → left ≡ drop 24 bytes → IsSoFar format bytes [] left
begins format bytes left whole is_left =
    let len : length left + 24 ≡ length bytes = omega (arith, ap length is_left, length-drop 24 bytes) in
    let place : length bytes - length left ≡ 24 = omega arith in
    record {
      turns = length bytes;
      enough = omega arith;
      place = omega arith;
      tail = is_left ∙ ap (λ (n : ℕ). drop n bytes) (sym place);
      same = with_prefix-nil (packets (length bytes) format (length bytes - length left) left) ∙ rw (place, is_left) refl;
    }

-- the place behind a packet
behind_place : (bytes left behind : List ℕ) (len : ℕ) → length left + 24 ≤ length bytes → 16 + len ≤ length left
    → behind ≡ drop len (drop 16 left)
    → (length behind + 16 + len ≡ length left) × (length bytes - length behind ≡ length bytes - length left + 16 + len)
behind_place bytes left behind len place whole is_behind =
    let e : length behind + 16 + len ≡ length left =
    omega (arith, ap length is_behind, length-drop len (drop 16 left), length-drop 16 left) in
    (e, omega arith)

-- what is after a packet, and the packet, as parts of the file
tail_behind : (bytes left : List ℕ) (len : ℕ) → left ≡ drop (length bytes - length left) bytes
    → drop len (drop 16 left) ≡ drop (length bytes - length left + 16 + len) bytes
tail_behind bytes left len tail =
    let place : ℕ = length bytes - length left in
    ap (λ (l : List ℕ). drop len (drop 16 l)) tail ∙ ap (drop len) (drop-drop 16 place bytes) ∙ drop-drop len (place + 16) bytes

pub part_after_head : (format : Format) (bytes left : List ℕ) (prefix : List (Stamp × List ℕ)) (len : ℕ) → IsSoFar format bytes prefix left
    → take len (drop (length bytes - length left + 16) bytes) ≡ take len (drop 16 left)
part_after_head format bytes left prefix len so_far =
    let place : ℕ = length bytes - length left in
    sym (ap (λ (l : List ℕ). take len (drop 16 l)) so_far.tail ∙ ap (take len) (drop-drop 16 place bytes))

one_more : (format : Format) (bytes left packet behind : List ℕ) (prefix : List (Stamp × List ℕ)) (head : PacketHead) (turns : ℕ)
    → 0 < length left → packet_head format (length bytes - length left) left ≡ Ok (Some head) → 16 + head.len ≤ length left
    → packet ≡ take head.len (drop 16 left) → behind ≡ drop head.len (drop 16 left)
    → length left ≤ turns → length left + 24 ≤ length bytes → left ≡ drop (length bytes - length left) bytes
    → with_prefix prefix (packets turns format (length bytes - length left) left) ≡ packets (length bytes) format 24 (drop 24 bytes)
    → IsSoFar format bytes (prefix ++ (head.stamp, packet) ∷ []) behind
one_more format bytes left packet behind prefix head zero some found whole is_packet is_behind enough place tail same =
    absurd (omega arith)
one_more format bytes left packet behind prefix head (suc turns) some found whole is_packet is_behind enough place tail same =
    let at = behind_place bytes left behind head.len place whole is_behind in
    let len = at.0 in
    let turn = packets-packet turns format (length bytes - length left) left head some found in
    record {
      turns = turns;
      enough = omega arith;
      place = omega arith;
      tail = is_behind ∙ tail_behind bytes left head.len tail ∙ ap (λ (n : ℕ). drop n bytes) (sym at.1);
      same =
          rw (at.1, is_packet, is_behind)
          (sym (with_prefix-with_packet prefix (head.stamp, take head.len (drop 16 left))
          (packets turns format (length bytes - length left + 16 + head.len) (drop head.len (drop 16 left))))
          ∙ ap (with_prefix prefix) (sym turn)
          ∙ same);
    }

pub goes_on : (format : Format) (bytes left packet behind : List ℕ) (prefix : List (Stamp × List ℕ)) (head : PacketHead)
    → 0 < length left → packet_head format (length bytes - length left) left ≡ Ok (Some head) → 16 + head.len ≤ length left
    → packet ≡ take head.len (drop 16 left) → behind ≡ drop head.len (drop 16 left)
    → IsSoFar format bytes prefix left → IsSoFar format bytes (prefix ++ (head.stamp, packet) ∷ []) behind
goes_on format bytes left packet behind prefix head some found whole is_packet is_behind so_far =
    one_more format bytes left packet behind prefix head so_far.turns some found whole is_packet is_behind so_far.enough so_far.place so_far.tail so_far.same

-- the three ends
pub is_whole : (format : Format) (bytes left : List ℕ) (prefix : List (Stamp × List ℕ)) → length left ≡ 0
    → IsSoFar format bytes prefix left
    → packets (length bytes) format 24 (drop 24 bytes) ≡ Ok (record { kept = prefix; cut = None })
is_whole format bytes left prefix none so_far =
    sym so_far.same
    ∙ ap (with_prefix prefix) (packets-none so_far.turns format (length bytes - length left) left none)
    ∙ with_prefix-no_more_packets prefix None

pub is_cut : (format : Format) (bytes left : List ℕ) (prefix : List (Stamp × List ℕ)) → 0 < length left
    → packet_head format (length bytes - length left) left ≡ Ok None → IsSoFar format bytes prefix left
    → packets (length bytes) format 24 (drop 24 bytes) ≡ Ok (record { kept = prefix; cut = Some (length bytes - length left) })
is_cut format bytes left prefix some cut so_far =
    let place : ℕ = length bytes - length left in
    sym so_far.same
    ∙ ap (with_prefix prefix) (packets-cut so_far.turns format place left some so_far.enough cut)
    ∙ with_prefix-no_more_packets prefix (Some place)

pub is_fault : (format : Format) (bytes left : List ℕ) (prefix : List (Stamp × List ℕ)) (fault : CaptureFault)
    → 0 < length left → packet_head format (length bytes - length left) left ≡ Err fault
    → IsSoFar format bytes prefix left
    → packets (length bytes) format 24 (drop 24 bytes) ≡ Err fault
is_fault format bytes left prefix fault some found so_far =
    sym so_far.same
    ∙ ap (with_prefix prefix) (packets-fault so_far.turns format (length bytes - length left) left fault some so_far.enough found)

-- what bytes are read as is answered
pub IsUnlessNoMemory-same : (read answer : Result Capture CaptureFault) → read ≡ answer → IsUnlessNoMemory read answer
IsUnlessNoMemory-same read (Ok capture) same = same
IsUnlessNoMemory-same read (Err NoMemory) same = tt
IsUnlessNoMemory-same read (Err (ShortHeader n)) same = same
IsUnlessNoMemory-same read (Err NoMagic) same = same
IsUnlessNoMemory-same read (Err BadVersion) same = same
IsUnlessNoMemory-same read (Err (BadLink n)) same = same
IsUnlessNoMemory-same read (Err (TooLong place n)) same = same

-- Counting packets, as a loop does: so many were passed over, which are what was kept so far if they are kept
pub record IsCountSoFar (format : Format) (bytes : List ℕ) (count : ℕ) (left : List ℕ) : Type 0 where
  pub passed : List (Stamp × List ℕ)
  pub many : length passed ≡ count
  pub room : count + length left ≤ length bytes
  pub so_far : IsSoFar format bytes passed left

pub count_begins : (format : Format) (bytes left : List ℕ) → 24 ≤ length bytes → left ≡ drop 24 bytes → IsCountSoFar format bytes 0 left
count_begins format bytes left whole is_left = record {
  passed = [];
  many = refl;
  room = omega (arith, ap length is_left, length-drop 24 bytes);
  so_far = begins format bytes left whole is_left;
}

pub count_goes_on : (format : Format) (bytes left behind : List ℕ) (count : ℕ) (head : PacketHead)
    → 0 < length left → packet_head format (length bytes - length left) left ≡ Ok (Some head) → 16 + head.len ≤ length left
    → behind ≡ drop head.len (drop 16 left)
    → IsCountSoFar format bytes count left → IsCountSoFar format bytes (count + 1) behind
count_goes_on format bytes left behind count head some found whole is_behind counted =
    let so_far = counted.so_far in
    let at = behind_place bytes left behind head.len so_far.place whole is_behind in
    let packet : Stamp × List ℕ = (head.stamp, take head.len (drop 16 left)) in
    record {
      passed = counted.passed ++ packet ∷ [];
      many = length-append counted.passed (packet ∷ []) ∙ ap (λ n. n + 1) counted.many;
      room = omega (arith, at.0, counted.room);
      so_far = goes_on format bytes left (take head.len (drop 16 left)) behind counted.passed head some found whole refl is_behind so_far;
    }

pub counted_whole : (format : Format) (bytes left : List ℕ) (count : ℕ) → length left ≡ 0 → IsCountSoFar format bytes count left
    → count_in (packets (length bytes) format 24 (drop 24 bytes)) ≡ Ok count
counted_whole format bytes left count none counted =
    ap count_in (is_whole format bytes left counted.passed none counted.so_far) ∙ ap (λ n. Ok n) counted.many

pub counted_cut : (format : Format) (bytes left : List ℕ) (count : ℕ) → 0 < length left
    → packet_head format (length bytes - length left) left ≡ Ok None → IsCountSoFar format bytes count left
    → count_in (packets (length bytes) format 24 (drop 24 bytes)) ≡ Ok count
counted_cut format bytes left count some cut counted =
    ap count_in (is_cut format bytes left counted.passed some cut counted.so_far) ∙ ap (λ n. Ok n) counted.many

pub counted_fault : (format : Format) (bytes left : List ℕ) (count : ℕ) (fault : CaptureFault)
    → 0 < length left → packet_head format (length bytes - length left) left ≡ Err fault → IsCountSoFar format bytes count left
    → count_in (packets (length bytes) format 24 (drop 24 bytes)) ≡ Err fault
counted_fault format bytes left count fault some found counted =
    ap count_in (is_fault format bytes left counted.passed fault some found counted.so_far)
