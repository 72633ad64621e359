-- Each file whose head has no fault is spelled: its parts are found where they stand.
use Rattle.std.proofs.Common.{◌≡◌, ℕ, zero, suc, ◌+◌, ◌^◌, ◌≤◌, ◌<◌, Bool, true, false, cond, eqb, ltb, not, ◌&&◌, List, [], ◌∷◌, ◌++◌, length, take, drop, slice_index, Option, Some, None, Result, Ok, Err, ◌⊎◌, inl, inr, refl, sym, ap, subst, ◌∙◌, append_assoc, arith}
use Rattle.std.specs.List.{AllByRecursion}
use Rattle.std.proofs.lemmas.Bool.{cases_lt, eqb-true, ltb-false}
use Rattle.std.proofs.lemmas.Grind.{common_steps}
use Rattle.std.proofs.lemmas.List.{drop-drop, get_or-drop, length-drop, length-take-le, nil_from_length, take-append-drop}
use Rattle.byteorder.specs.Numbers.{big_from-lt, little_from-lt}
use Rattle.ng_base.specs.declared.packet.TheConstants.{MAX_PACKET_LEN}
use Rattle.ng_pcap.specs.declared.fault.CaptureFault.{CaptureFault}
use Rattle.ng_pcap.specs.declared.fault.CaptureFault.TheVariants.{ShortHeader}
use Rattle.ng_pcap.specs.declared.format.Endian.{Endian}
use Rattle.ng_pcap.specs.declared.format.Endian.TheVariants.{Big, Little}
use Rattle.ng_pcap.specs.declared.format.Resolution.{Resolution}
use Rattle.ng_pcap.specs.declared.format.Resolution.TheVariants.{Microseconds, Nanoseconds}
use Rattle.ng_pcap.specs.declared.format.Format.{Format}
use Rattle.ng_pcap.specs.Format.{either_order, format_of, magic_of, number, number_bytes, resolution_of}
use Rattle.ng_pcap.specs.Reading.{head_of, rest_of_head}
use Rattle.ng_pcap.specs.Spelling.{Head, Entry, HasSpelling, IsCut, IsEntry, IsTooLong, entries_bytes, entry_bytes, head_bytes}

abbrev pub IsBytes : List ℕ → Type 0
IsBytes bytes = (i : ℕ) → slice_index bytes i < 256

pub IsBytes-drop : (n : ℕ) (bytes : List ℕ) → IsBytes bytes → IsBytes (drop n bytes)
IsBytes-drop n bytes fits i = rw (get_or-drop n bytes i 0) (fits (n + i))

-- a number is of its field's size
pub number-lt : (endian : Endian) (size place : ℕ) (bytes : List ℕ) → IsBytes bytes → number endian size place bytes < 256 ^ size
number-lt Big size place bytes fits = big_from-lt 0 size (drop place bytes) (IsBytes-drop place bytes fits)
number-lt Little size place bytes fits = little_from-lt 0 size (drop place bytes) (IsBytes-drop place bytes fits)

-- a number's bytes are those that stand in its place
two_bytes : (endian : Endian) (bytes : List ℕ) → 2 ≤ length bytes → IsBytes bytes
    → number_bytes endian 2 (number endian 2 0 bytes) ≡ take 2 bytes
two_bytes Big bytes long fits = grind (arith, common_steps)
two_bytes Little bytes long fits = grind (arith, common_steps)

pub four_bytes : (endian : Endian) (bytes : List ℕ) → 4 ≤ length bytes → IsBytes bytes
    → number_bytes endian 4 (number endian 4 0 bytes) ≡ take 4 bytes
four_bytes Big bytes long fits = grind (arith, common_steps)
four_bytes Little bytes long fits = grind (arith, common_steps)

-- a number that stands at a place, and behind it what stands there
join_two : (endian : Endian) (place : ℕ) (bytes behind : List ℕ) → place + 2 ≤ length bytes → IsBytes bytes
    → behind ≡ drop (place + 2) bytes
    → number_bytes endian 2 (number endian 2 0 (drop place bytes)) ++ behind ≡ drop place bytes
join_two endian place bytes behind long fits same =
    ap (λ (l : List ℕ). l ++ behind) (two_bytes endian (drop place bytes) (omega (arith, length-drop place bytes)) (IsBytes-drop place bytes fits))
    ∙ ap (λ (l : List ℕ). take 2 (drop place bytes) ++ l) (same ∙ sym (drop-drop 2 place bytes))
    ∙ take-append-drop 2 (drop place bytes)

join_four : (endian : Endian) (place : ℕ) (bytes behind : List ℕ) → place + 4 ≤ length bytes → IsBytes bytes
    → behind ≡ drop (place + 4) bytes
    → number_bytes endian 4 (number endian 4 0 (drop place bytes)) ++ behind ≡ drop place bytes
join_four endian place bytes behind long fits same =
    ap (λ (l : List ℕ). l ++ behind) (four_bytes endian (drop place bytes) (omega (arith, length-drop place bytes)) (IsBytes-drop place bytes fits))
    ∙ ap (λ (l : List ℕ). take 4 (drop place bytes) ++ l) (same ∙ sym (drop-drop 4 place bytes))
    ∙ take-append-drop 4 (drop place bytes)

-- the number at a place begins what stands from there on
number-drop : (endian : Endian) (size place : ℕ) (bytes : List ℕ)
    → number endian size 0 (drop place bytes) ≡ number endian size place bytes
number-drop Big size place bytes = refl
number-drop Little size place bytes = refl

four : (endian : Endian) (place : ℕ) (bytes behind : List ℕ) → place + 4 ≤ length bytes → IsBytes bytes
    → behind ≡ drop (place + 4) bytes
    → number_bytes endian 4 (number endian 4 place bytes) ++ behind ≡ drop place bytes
four endian place bytes behind long fits same =
    ap (λ (n : ℕ). number_bytes endian 4 n ++ behind) (sym (number-drop endian 4 place bytes))
    ∙ join_four endian place bytes behind long fits same

two : (endian : Endian) (place : ℕ) (bytes behind : List ℕ) → place + 2 ≤ length bytes → IsBytes bytes
    → behind ≡ drop (place + 2) bytes
    → number_bytes endian 2 (number endian 2 place bytes) ++ behind ≡ drop place bytes
two endian place bytes behind long fits same =
    ap (λ (n : ℕ). number_bytes endian 2 n ++ behind) (sym (number-drop endian 2 place bytes))
    ∙ join_two endian place bytes behind long fits same

-- the entry that stands in front
abbrev entry_at : Endian → List ℕ → Entry
entry_at endian left = record {
  seconds = number endian 4 0 left;
  fraction = number endian 4 4 left;
  original = number endian 4 12 left;
  packet = take (number endian 4 8 left) (drop 16 left);
}

-- a packet whose end is there
record IsThere (endian : Endian) (left : List ℕ) : Type 0 where
  low : number endian 4 8 left ≤ MAX_PACKET_LEN
  room : 16 + number endian 4 8 left ≤ length left

length-packet : (endian : Endian) (left : List ℕ) → IsThere endian left
    → length (take (number endian 4 8 left) (drop 16 left)) ≡ number endian 4 8 left
length-packet endian left there =
    length-take-le (number endian 4 8 left) (drop 16 left) (let room = there.room in omega (arith, length-drop 16 left))

IsEntry-entry_at : (endian : Endian) (left : List ℕ) → IsBytes left → IsThere endian left → IsEntry (entry_at endian left)
IsEntry-entry_at endian left fits there = record {
  seconds = number-lt endian 4 0 left fits;
  fraction = number-lt endian 4 4 left fits;
  original = number-lt endian 4 12 left fits;
  packet = omega (arith, length-packet endian left there, there.low);
}

entry_bytes-entry_at : (endian : Endian) (left : List ℕ) → IsBytes left → IsThere endian left
    → entry_bytes endian (entry_at endian left) ++ drop (number endian 4 8 left) (drop 16 left) ≡ left
entry_bytes-entry_at endian left fits there =
    let len : ℕ = number endian 4 8 left in
    let packet : List ℕ = take len (drop 16 left) in
    let behind : List ℕ = drop len (drop 16 left) in
    let room = there.room in
    let original = four endian 12 left (packet ++ behind) (omega arith) fits (take-append-drop len (drop 16 left)) in
    let kept = four endian 8 left _ (omega arith) fits original in
    let fraction = four endian 4 left _ (omega arith) fits kept in
    let seconds = four endian 0 left _ (omega arith) fits fraction in
    let same_len = length-packet endian left there in
    simp append_assoc (rw same_len seconds)

-- whole packets, and how what is behind them ends it
record Parts (endian : Endian) (left : List ℕ) : Type 0 where
  entries : List Entry
  rest : List ℕ
  fits : AllByRecursion IsEntry entries
  whole : left ≡ entries_bytes endian entries ++ rest
  ends : (rest ≡ []) ⊎ (IsCut endian rest ⊎ IsTooLong endian rest)

no_packets : (endian : Endian) (left : List ℕ) → (left ≡ []) ⊎ (IsCut endian left ⊎ IsTooLong endian left) → Parts endian left
no_packets endian left ends = record { entries = []; rest = left; fits = tt; whole = refl; ends = ends }

one_packet : (endian : Endian) (left : List ℕ) → IsBytes left → IsThere endian left
    → Parts endian (drop (number endian 4 8 left) (drop 16 left)) → Parts endian left
one_packet endian left fits there others =
    let first : List ℕ = entry_bytes endian (entry_at endian left) in
    record {
      entries = entry_at endian left ∷ others.entries;
      rest = others.rest;
      fits = (IsEntry-entry_at endian left fits there, others.fits);
      whole =
          sym (entry_bytes-entry_at endian left fits there)
          ∙ ap (λ (behind : List ℕ). first ++ behind) others.whole
          ∙ sym (append_assoc first (entries_bytes endian others.entries) others.rest);
      ends = others.ends;
    }

parts_of : (turns : ℕ) (endian : Endian) (left : List ℕ) → IsBytes left → length left ≤ turns → Parts endian left
parts_of zero endian left fits enough = no_packets endian left (inl (nil_from_length left (omega arith)))
parts_of (suc turns) endian left fits enough =
    elim (cases_lt (length left) 1) [
      | inl none ↦ no_packets endian left (inl (nil_from_length left (omega arith)))
      | inr some ↦ elim (cases_lt (length left) 16) [
        | inl short ↦ no_packets endian left (inr (inl (some, inl short)))
        | inr room ↦ elim (cases_lt MAX_PACKET_LEN (number endian 4 8 left)) [
          | inl high ↦ no_packets endian left (inr (inr (room, high)))
          | inr low ↦ elim (cases_lt (length left) (16 + number endian 4 8 left)) [
            | inl ends ↦ no_packets endian left (inr (inl (some, inr (low, ends))))
            | inr there ↦ one_packet endian left fits (record { low = low; room = there })
                (parts_of turns endian (drop (number endian 4 8 left) (drop 16 left))
                (IsBytes-drop (number endian 4 8 left) (drop 16 left) (IsBytes-drop 16 left fits))
                (omega (arith, length-drop (number endian 4 8 left) (drop 16 left), length-drop 16 left)))
          ]
        ]
      ]
    ]

-- what a head without a fault says
record IsGood (format : Format) (bytes : List ℕ) : Type 0 where
  magic : number format.endian 4 0 bytes ≡ magic_of format.resolution
  major : number format.endian 2 4 bytes ≡ 2
  minor : number format.endian 2 6 bytes ≡ 4
  link : number format.endian 4 20 bytes ≡ 1

-- a test that did not fail
guard_ok : {A : Type 0} (b : Bool) (fault : CaptureFault) (r : Result A CaptureFault) (x : A)
    → cond b (Err fault) r ≡ Ok x → (b ≡ false) × (r ≡ Ok x)
guard_ok true fault r x e = absurd (cc e)
guard_ok false fault r x e = (refl, e)

both_true : (a b : Bool) → not (a && b) ≡ false → (a ≡ true) × (b ≡ true)
both_true true true e = (refl, refl)
both_true true false e = absurd (cc e)
both_true false b e = absurd (cc e)

one_true : (a : Bool) → not a ≡ false → a ≡ true
one_true true e = refl
one_true false e = absurd (cc e)

magic_by_tests : (a b : Bool) (magic : ℕ) (resolution : Resolution) → eqb magic (magic_of Microseconds) ≡ a
    → eqb magic (magic_of Nanoseconds) ≡ b
    → cond a (Some Microseconds) (cond b (Some Nanoseconds) None) ≡ Some resolution → magic ≡ magic_of resolution
magic_by_tests true b magic resolution micros nanos e =
    let same : Microseconds ≡ resolution = cc e in
    eqb-true _ _ micros ∙ ap magic_of same
magic_by_tests false true magic resolution micros nanos e =
    let same : Nanoseconds ≡ resolution = cc e in
    eqb-true _ _ nanos ∙ ap magic_of same
magic_by_tests false false magic resolution micros nanos e = absurd (cc e)

magic_from : (magic : ℕ) (resolution : Resolution) → resolution_of magic ≡ Some resolution → magic ≡ magic_of resolution
magic_from magic resolution e = magic_by_tests _ _ magic resolution refl refl e

pub either_order-magic : (bytes : List ℕ) (big little : Option Resolution) (format : Format)
    → resolution_of (number Big 4 0 bytes) ≡ big → resolution_of (number Little 4 0 bytes) ≡ little
    → either_order big little ≡ Some format → number format.endian 4 0 bytes ≡ magic_of format.resolution
either_order-magic bytes (Some resolution) little format is_big is_little e =
    let same : record { endian = Big; resolution = resolution } ≡ format = cc e in
    let P : Format → Type 0 = λ f. number f.endian 4 0 bytes ≡ magic_of f.resolution in
    subst P same (magic_from (number Big 4 0 bytes) resolution is_big)
either_order-magic bytes None (Some resolution) format is_big is_little e =
    let same : record { endian = Little; resolution = resolution } ≡ format = cc e in
    let P : Format → Type 0 = λ f. number f.endian 4 0 bytes ≡ magic_of f.resolution in
    subst P same (magic_from (number Little 4 0 bytes) resolution is_little)
either_order-magic bytes None None format is_big is_little e = absurd (cc e)

rest_found : (bytes : List ℕ) (named : Option Format) (format : Format) → format_of bytes ≡ named
    → rest_of_head bytes named ≡ Ok format → IsGood format bytes
rest_found bytes None format is_named e = absurd (cc e)
rest_found bytes (Some named) format is_named e =
    let version = guard_ok _ _ _ format e in
    let link = guard_ok _ _ _ format version.1 in
    let parts = both_true _ _ version.0 in
    let same : named ≡ format = cc (link.1) in
    let good : IsGood named bytes = record {
      magic = either_order-magic bytes _ _ named refl refl is_named;
      major = eqb-true _ _ parts.0;
      minor = eqb-true _ _ parts.1;
      link = eqb-true _ _ (one_true _ link.0);
    } in
    let P : Format → Type 0 = λ f. IsGood f bytes in
    subst P same good

head_found : (bytes : List ℕ) (format : Format) → head_of bytes ≡ Ok format → (24 ≤ length bytes) × IsGood format bytes
unfolding head_of
head_found bytes format e =
    let long = guard_ok (ltb (length bytes) 24) (ShortHeader (length bytes)) (rest_of_head bytes (format_of bytes)) format e in
    (ltb-false (length bytes) 24 long.0, rest_found bytes (format_of bytes) format refl long.1)

-- the head that stands in front
abbrev head_at : Format → List ℕ → Head
head_at format bytes = record {
  format = format;
  zone = number format.endian 4 8 bytes;
  accuracy = number format.endian 4 12 bytes;
  longest = number format.endian 4 16 bytes;
}

head_bytes-head_at : (format : Format) (bytes : List ℕ) → IsBytes bytes → 24 ≤ length bytes → IsGood format bytes
    → head_bytes (head_at format bytes) ++ drop 24 bytes ≡ bytes
head_bytes-head_at format bytes fits long good =
    let link = four format.endian 20 bytes (drop 24 bytes) (omega arith) fits refl in
    let longest = four format.endian 16 bytes _ (omega arith) fits link in
    let accuracy = four format.endian 12 bytes _ (omega arith) fits longest in
    let zone = four format.endian 8 bytes _ (omega arith) fits accuracy in
    let minor = two format.endian 6 bytes _ (omega arith) fits zone in
    let major = two format.endian 4 bytes _ (omega arith) fits minor in
    let magic = four format.endian 0 bytes _ (omega arith) fits major in
    let whole = rw (good.magic, good.major, good.minor, good.link) at magic in
    simp append_assoc whole

pub found : (bytes : List ℕ) (format : Format) → IsBytes bytes → head_of bytes ≡ Ok format → HasSpelling bytes format
found bytes format fits e =
    let facts = head_found bytes format e in
    let parts =
    parts_of (length bytes) format.endian (drop 24 bytes) (IsBytes-drop 24 bytes fits) (omega (arith, length-drop 24 bytes)) in
    let head : List ℕ = head_bytes (head_at format bytes) in
    record {
      head = head_at format bytes;
      entries = parts.entries;
      rest = parts.rest;
      same_format = refl;
      file = record {
        is_head =
            record {
              zone = number-lt format.endian 4 8 bytes fits;
              accuracy = number-lt format.endian 4 12 bytes fits;
              longest = number-lt format.endian 4 16 bytes fits;
            };
        are_entries = parts.fits;
        whole =
            sym (head_bytes-head_at format bytes fits facts.0 facts.1)
            ∙ ap (λ (behind : List ℕ). head ++ behind) parts.whole
            ∙ sym (append_assoc head (entries_bytes format.endian parts.entries) parts.rest);
      };
      ends = parts.ends;
    }
