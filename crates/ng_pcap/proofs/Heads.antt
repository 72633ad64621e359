-- What is wrong with a file's head is what is read of it.
use Rattle.std.proofs.Common.{◌≡◌, ℕ, zero, suc, ◌+◌, ◌≤◌, ◌<◌, ◌⊎◌, inl, inr, Bool, true, false, cond, eqb, not, ◌&&◌, List, length, take, drop, Option, Some, None, Result, Ok, Err, IsOk, refl, sym, ap, subst, ◌∙◌, arith}
use Rattle.std.specs.Prelude.{⊤}
use Rattle.std.specs.Option.{option_map_or}
use Rattle.std.proofs.lemmas.Bool.{cases_lt, eq-eqb, le-ltb, lt-ltb, ne_eqb}
use Rattle.std.proofs.lemmas.Bool.Decides.{eqb_tells}
use Rattle.byteorder.specs.Endian.{big_number, little_number}
use Rattle.byteorder.specs.Numbers.{big_from-take, little_from-take}
use Rattle.ng_base.specs.declared.ids.Stamp.{Stamp}
use Rattle.ng_pcap.specs.declared.capture.Capture.{Capture}
use Rattle.ng_pcap.specs.declared.fault.CaptureFault.{CaptureFault}
use Rattle.ng_pcap.specs.declared.fault.CaptureFault.TheVariants.{ShortHeader, NoMagic, BadVersion, BadLink, TooLong, NoMemory}
use Rattle.ng_pcap.specs.declared.format.Endian.{Endian}
use Rattle.ng_pcap.specs.declared.format.Endian.TheVariants.{Big, Little}
use Rattle.ng_pcap.specs.declared.format.Resolution.{Resolution}
use Rattle.ng_pcap.specs.declared.format.Resolution.TheVariants.{Microseconds, Nanoseconds}
use Rattle.ng_pcap.specs.declared.format.Format.{Format}
use Rattle.ng_pcap.specs.declared.reader.PacketHead.{PacketHead}
use Rattle.ng_pcap.specs.Format.{either_order, format_of, magic_of, number, number_bytes, resolution_of}
use Rattle.ng_pcap.specs.Heads.{HasMagic, HasNoFault, HasNoMagic, HasNoneOfThese, HasOtherLink, HasOtherVersion, HasVersion, IsShort, link_of, magic_bytes}
use Rattle.ng_pcap.specs.Laws.{HeadFaults}
use Rattle.ng_pcap.specs.Reading.{◌>>=◌, capture_of, no_more_packets, head_of, packet_head, packets, rest_of_head, with_packet}
use Rattle.ng_pcap.proofs.Found.{IsBytes, either_order-magic, four_bytes}
use Rattle.ng_pcap.proofs.Whole.{capture_of-fault}

-- the magic number's spelling and its number
abbrev format_by : ℕ → ℕ → Option Format
format_by big little = either_order (resolution_of big) (resolution_of little)

format_at : (bytes first : List ℕ) → take 4 bytes ≡ first
    → format_of bytes ≡ format_by (big_number 4 first) (little_number 4 first)
format_at bytes first e =
    let big : big_number 4 bytes ≡ big_number 4 first =
    sym (big_from-take 0 4 4 bytes (omega arith))
    ∙ ap (λ (l : List ℕ). big_number 4 l) e in
    let little : little_number 4 bytes ≡ little_number 4 first =
    sym (little_from-take 0 4 4 bytes (omega arith))
    ∙ ap (λ (l : List ℕ). little_number 4 l) e in
    ap (λ (n : ℕ). format_by n (little_number 4 bytes)) big ∙ ap (λ (n : ℕ). format_by (big_number 4 first) n) little

magic_read : (endian : Endian) (resolution : Resolution) (bytes : List ℕ) → take 4 bytes ≡ magic_bytes endian resolution
    → format_of bytes ≡ Some (record { endian = endian; resolution = resolution })
magic_read Big Microseconds bytes e = format_at bytes (magic_bytes Big Microseconds) e
magic_read Big Nanoseconds bytes e = format_at bytes (magic_bytes Big Nanoseconds) e
magic_read Little Microseconds bytes e = format_at bytes (magic_bytes Little Microseconds) e
magic_read Little Nanoseconds bytes e = format_at bytes (magic_bytes Little Nanoseconds) e

spelled : (endian : Endian) (resolution : Resolution)
    → number_bytes endian 4 (magic_of resolution) ≡ magic_bytes endian resolution
spelled Big Microseconds = refl
spelled Big Nanoseconds = refl
spelled Little Microseconds = refl
spelled Little Nanoseconds = refl

magic_found : (bytes : List ℕ) (format : Format) → IsBytes bytes → 24 ≤ length bytes → format_of bytes ≡ Some format
    → HasMagic format.endian format.resolution bytes
magic_found bytes format fits room e =
    let four : number_bytes format.endian 4 (number format.endian 4 0 bytes) ≡ take 4 bytes =
    four_bytes format.endian bytes (omega arith) fits in
    let same = either_order-magic bytes _ _ format refl refl e in
    record { room = room; magic = sym four ∙ ap (λ (n : ℕ). number_bytes format.endian 4 n) same ∙ spelled format.endian format.resolution }

-- what is read of a head that is long enough
head_long : (bytes : List ℕ) (named : Option Format) → 24 ≤ length bytes → format_of bytes ≡ named
    → head_of bytes ≡ rest_of_head bytes named
unfolding head_of
head_long bytes named room e = rw (le-ltb (length bytes) 24 room) (ap (rest_of_head bytes) e)

-- what is read of a head with a magic number
abbrev by_tests : Bool → Bool → Bool → ℕ → Format → Result Format CaptureFault
by_tests major minor link n format = cond (not (major && minor)) (Err BadVersion) (cond (not link) (Err (BadLink n)) (Ok format))

head_by_tests : (format : Format) (bytes : List ℕ) → HasMagic format.endian format.resolution bytes
    → head_of bytes ≡ by_tests (eqb (number format.endian 2 4 bytes) 2) (eqb (number format.endian 2 6 bytes) 4)
    (eqb (number format.endian 4 20 bytes) 1) (number format.endian 4 20 bytes) format
head_by_tests format bytes magic =
    head_long bytes (Some format) magic.room (magic_read format.endian format.resolution bytes magic.magic)

version_is : (endian : Endian) (bytes : List ℕ) → HasVersion endian bytes
    → (number endian 2 4 bytes ≡ 2) × (number endian 2 6 bytes ≡ 4)
version_is Big bytes h = h
version_is Little bytes h = h

is_version : (endian : Endian) (bytes : List ℕ) → number endian 2 4 bytes ≡ 2 → number endian 2 6 bytes ≡ 4
    → HasVersion endian bytes
is_version Big bytes major minor = (major, minor)
is_version Little bytes major minor = (major, minor)

link_is : (endian : Endian) (bytes : List ℕ) → link_of endian bytes ≡ number endian 4 20 bytes
link_is Big bytes = refl
link_is Little bytes = refl

-- a head is one of these
record ReadShort (bytes : List ℕ) : Type 0 where
  is : IsShort (length bytes) bytes
  read : head_of bytes ≡ Err (ShortHeader (length bytes))

record ReadNoMagic (bytes : List ℕ) : Type 0 where
  is : HasNoMagic bytes
  read : head_of bytes ≡ Err NoMagic

record ReadVersion (bytes : List ℕ) : Type 0 where
  is : HasOtherVersion bytes
  read : head_of bytes ≡ Err BadVersion

record ReadLink (bytes : List ℕ) : Type 0 where
  n : ℕ
  is : HasOtherLink n bytes
  read : head_of bytes ≡ Err (BadLink n)

record ReadFine (bytes : List ℕ) : Type 0 where
  format : Format
  is : HasNoFault format bytes
  read : head_of bytes ≡ Ok format

abbrev IsOneOf : List ℕ → Type 0
IsOneOf bytes = ReadShort bytes ⊎ (ReadNoMagic bytes ⊎ (ReadVersion bytes ⊎ (ReadLink bytes ⊎ ReadFine bytes)))

-- each is read where it is
short_read : (n : ℕ) (bytes : List ℕ) → IsShort n bytes → head_of bytes ≡ Err (ShortHeader n)
unfolding head_of
short_read n bytes short =
    let few : length bytes < 24 = subst (λ (k : ℕ). k < 24) (sym short.len) short.few in
    rw (lt-ltb (length bytes) 24 few) (ap (λ (k : ℕ). Err (ShortHeader k)) short.len)

no_magic_by : (bytes : List ℕ) (named : Option Format) → IsBytes bytes → HasNoMagic bytes → format_of bytes ≡ named
    → head_of bytes ≡ Err NoMagic
no_magic_by bytes None fits lacks e = head_long bytes None lacks.room e
no_magic_by bytes (Some format) fits lacks e =
    absurd (lacks.other format.endian format.resolution (magic_found bytes format fits lacks.room e).magic)

no_magic_read : (bytes : List ℕ) → IsBytes bytes → HasNoMagic bytes → head_of bytes ≡ Err NoMagic
no_magic_read bytes fits lacks = no_magic_by bytes (format_of bytes) fits lacks refl

other_version : (format : Format) (bytes : List ℕ) → HasMagic format.endian format.resolution bytes
    → (HasVersion format.endian bytes → ⊥) → head_of bytes ≡ Err BadVersion
other_version format bytes magic other =
    let n : ℕ = number format.endian 4 20 bytes in
    let link : Bool = eqb n 1 in
    let minor : Bool = eqb (number format.endian 2 6 bytes) 4 in
    elim (eqb_tells (number format.endian 2 4 bytes) 2) [
      | inl two ↦ elim (eqb_tells (number format.endian 2 6 bytes) 4) [
        | inl four ↦ absurd (other (is_version format.endian bytes two.1 four.1))
        | inr lacks ↦ head_by_tests format bytes magic
            ∙ ap (λ (b : Bool). by_tests b minor link n format) two.0
            ∙ ap (λ (b : Bool). by_tests true b link n format) lacks.0
      ]
      | inr lacks ↦ head_by_tests format bytes magic ∙ ap (λ (b : Bool). by_tests b minor link n format) lacks.0
    ]

version_read : (bytes : List ℕ) → HasOtherVersion bytes → head_of bytes ≡ Err BadVersion
version_read bytes has = other_version (record { endian = has.endian; resolution = has.resolution }) bytes has.magic has.other

right_version : (format : Format) (bytes : List ℕ) → HasMagic format.endian format.resolution bytes
    → HasVersion format.endian bytes
    → head_of bytes ≡ by_tests true true (eqb (number format.endian 4 20 bytes) 1) (number format.endian 4 20 bytes) format
right_version format bytes magic version =
    let n : ℕ = number format.endian 4 20 bytes in
    let link : Bool = eqb n 1 in
    let minor : Bool = eqb (number format.endian 2 6 bytes) 4 in
    let parts = version_is format.endian bytes version in
    let first : eqb (number format.endian 2 4 bytes) 2 ≡ true = eq-eqb _ _ parts.0 in
    let second : minor ≡ true = eq-eqb _ _ parts.1 in
    head_by_tests format bytes magic
    ∙ ap (λ (b : Bool). by_tests b minor link n format) first
    ∙ ap (λ (b : Bool). by_tests true b link n format) second

link_read : (n : ℕ) (bytes : List ℕ) → HasOtherLink n bytes → head_of bytes ≡ Err (BadLink n)
link_read n bytes has =
    let format : Format = record { endian = has.endian; resolution = has.resolution } in
    let same : number has.endian 4 20 bytes ≡ n = sym (link_is has.endian bytes) ∙ has.link in
    right_version format bytes has.magic has.version
    ∙ ap (λ (k : ℕ). by_tests true true (eqb k 1) k format) same
    ∙ ap (λ (b : Bool). by_tests true true b n format) (ne_eqb n 1 has.other)

fine_read : (format : Format) (bytes : List ℕ) → HasNoFault format bytes → head_of bytes ≡ Ok format
fine_read format bytes has =
    let same : number format.endian 4 20 bytes ≡ 1 = sym (link_is format.endian bytes) ∙ has.link in
    right_version format bytes has.magic has.version ∙ ap (λ (k : ℕ). by_tests true true (eqb k 1) k format) same

-- and one of them is there
one_of_link : (format : Format) (bytes : List ℕ) → HasMagic format.endian format.resolution bytes
    → HasVersion format.endian bytes → IsOneOf bytes
one_of_link format bytes magic version =
    elim (eqb_tells (link_of format.endian bytes) 1) [
      | inl one ↦
          let is : HasNoFault format bytes = record { magic = magic; version = version; link = one.1 } in
          inr (inr (inr (inr (record { format = format; is = is; read = fine_read format bytes is }))))
      | inr lacks ↦
          let is : HasOtherLink (link_of format.endian bytes) bytes =
          record { endian = format.endian; resolution = format.resolution; magic = magic; version = version; link = refl; other = lacks.1 } in
          inr (inr (inr (inl (record { n = link_of format.endian bytes; is = is; read = link_read (link_of format.endian bytes) bytes is }))))
    ]

one_of_other : (format : Format) (bytes : List ℕ) → HasMagic format.endian format.resolution bytes
    → (HasVersion format.endian bytes → ⊥) → IsOneOf bytes
one_of_other format bytes magic other =
    let is : HasOtherVersion bytes =
    record { endian = format.endian; resolution = format.resolution; magic = magic; other = other } in
    inr (inr (inl (record { is = is; read = version_read bytes is })))

one_of_magic : (format : Format) (bytes : List ℕ) → HasMagic format.endian format.resolution bytes → IsOneOf bytes
one_of_magic format bytes magic =
    elim (eqb_tells (number format.endian 2 4 bytes) 2) [
      | inl two ↦ elim (eqb_tells (number format.endian 2 6 bytes) 4) [
        | inl four ↦ one_of_link format bytes magic (is_version format.endian bytes two.1 four.1)
        | inr lacks ↦ one_of_other format bytes magic (λ version. lacks.1 (version_is format.endian bytes version).1)
      ]
      | inr lacks ↦ one_of_other format bytes magic (λ version. lacks.1 (version_is format.endian bytes version).0)
    ]

some_is_none : (format : Format) (named : Option Format) → named ≡ Some format → named ≡ None → ⊥
some_is_none format named some none = cc (some, none)

one_of_named : (bytes : List ℕ) (named : Option Format) → IsBytes bytes → 24 ≤ length bytes
    → format_of bytes ≡ named → IsOneOf bytes
one_of_named bytes None fits room e =
    let is : HasNoMagic bytes =
    record { room = room; other = λ endian resolution magic. some_is_none _ (format_of bytes) (magic_read endian resolution bytes magic) e } in
    inr (inl (record { is = is; read = no_magic_read bytes fits is }))
one_of_named bytes (Some format) fits room e = one_of_magic format bytes (magic_found bytes format fits room e)

one_of : (bytes : List ℕ) → IsBytes bytes → IsOneOf bytes
one_of bytes fits =
    elim (cases_lt (length bytes) 24) [
      | inl few ↦
          let is : IsShort (length bytes) bytes = record { len = refl; few = few } in
          inl (record { is = is; read = short_read (length bytes) bytes is })
      | inr room ↦ one_of_named bytes (format_of bytes) fits room refl
    ]

-- each is there where it is read
short_is : (bytes : List ℕ) (n : ℕ) → IsOneOf bytes → head_of bytes ≡ Err (ShortHeader n) → IsShort n bytes
short_is bytes n (inl a) e = let same : length bytes ≡ n = cc (a.read, e) in subst (λ (k : ℕ). IsShort k bytes) same a.is
short_is bytes n (inr (inl a)) e = absurd (cc (a.read, e))
short_is bytes n (inr (inr (inl a))) e = absurd (cc (a.read, e))
short_is bytes n (inr (inr (inr (inl a)))) e = absurd (cc (a.read, e))
short_is bytes n (inr (inr (inr (inr a)))) e = absurd (cc (a.read, e))

no_magic_is : (bytes : List ℕ) → IsOneOf bytes → head_of bytes ≡ Err NoMagic → HasNoMagic bytes
no_magic_is bytes (inl a) e = absurd (cc (a.read, e))
no_magic_is bytes (inr (inl a)) e = a.is
no_magic_is bytes (inr (inr (inl a))) e = absurd (cc (a.read, e))
no_magic_is bytes (inr (inr (inr (inl a)))) e = absurd (cc (a.read, e))
no_magic_is bytes (inr (inr (inr (inr a)))) e = absurd (cc (a.read, e))

version_is_other : (bytes : List ℕ) → IsOneOf bytes → head_of bytes ≡ Err BadVersion → HasOtherVersion bytes
version_is_other bytes (inl a) e = absurd (cc (a.read, e))
version_is_other bytes (inr (inl a)) e = absurd (cc (a.read, e))
version_is_other bytes (inr (inr (inl a))) e = a.is
version_is_other bytes (inr (inr (inr (inl a)))) e = absurd (cc (a.read, e))
version_is_other bytes (inr (inr (inr (inr a)))) e = absurd (cc (a.read, e))

link_is_other : (bytes : List ℕ) (n : ℕ) → IsOneOf bytes → head_of bytes ≡ Err (BadLink n) → HasOtherLink n bytes
link_is_other bytes n (inl a) e = absurd (cc (a.read, e))
link_is_other bytes n (inr (inl a)) e = absurd (cc (a.read, e))
link_is_other bytes n (inr (inr (inl a))) e = absurd (cc (a.read, e))
link_is_other bytes n (inr (inr (inr (inl a)))) e =
    let same : a.n ≡ n = cc (a.read, e) in
    subst (λ (k : ℕ). HasOtherLink k bytes) same a.is
link_is_other bytes n (inr (inr (inr (inr a)))) e = absurd (cc (a.read, e))

fine_is : (bytes : List ℕ) (format : Format) → IsOneOf bytes → head_of bytes ≡ Ok format → HasNoFault format bytes
fine_is bytes format (inl a) e = absurd (cc (a.read, e))
fine_is bytes format (inr (inl a)) e = absurd (cc (a.read, e))
fine_is bytes format (inr (inr (inl a))) e = absurd (cc (a.read, e))
fine_is bytes format (inr (inr (inr (inl a)))) e = absurd (cc (a.read, e))
fine_is bytes format (inr (inr (inr (inr a)))) e =
    let same : a.format ≡ format = cc (a.read, e) in
    subst (λ (f : Format). HasNoFault f bytes) same a.is

none_is_ok : (bytes : List ℕ) → IsOneOf bytes → HasNoneOfThese bytes → IsOk (head_of bytes)
none_is_ok bytes (inl a) none = absurd (none.short (length bytes) a.is)
none_is_ok bytes (inr (inl a)) none = absurd (none.no_magic a.is)
none_is_ok bytes (inr (inr (inl a))) none = absurd (none.version a.is)
none_is_ok bytes (inr (inr (inr (inl a)))) none = absurd (none.link a.n a.is)
none_is_ok bytes (inr (inr (inr (inr a)))) none = rw a.read refl

not_both : (read : Result Format CaptureFault) (fault : CaptureFault) → IsOk read → read ≡ Err fault → ⊥
not_both (Ok format) fault ok e = cc e
not_both (Err other) fault ok e = cc ok

ok_is_none : (bytes : List ℕ) → IsBytes bytes → IsOk (head_of bytes) → HasNoneOfThese bytes
ok_is_none bytes fits ok = record {
  short = λ n is. not_both (head_of bytes) (ShortHeader n) ok (short_read n bytes is);
  no_magic = λ is. not_both (head_of bytes) NoMagic ok (no_magic_read bytes fits is);
  version = λ is. not_both (head_of bytes) BadVersion ok (version_read bytes is);
  link = λ n is. not_both (head_of bytes) (BadLink n) ok (link_read n bytes is);
}

-- behind the head a packet that is too long is the one fault
abbrev IsLong : CaptureFault → Type 0
IsLong (TooLong place n) = ⊤
IsLong (ShortHeader n) = ⊥
IsLong NoMagic = ⊥
IsLong BadVersion = ⊥
IsLong (BadLink n) = ⊥
IsLong NoMemory = ⊥

abbrev FailsLong : {A : Type 0} → Result A CaptureFault → Type 0
FailsLong (Ok x) = ⊤
FailsLong (Err fault) = IsLong fault

bound_fails_long : {A B : Type 0} (r : Result A CaptureFault) (f : A → Result B CaptureFault) → FailsLong r
    → ((x : A) → FailsLong (f x)) → FailsLong (r >>= f)
bound_fails_long (Ok x) f long after = after x
bound_fails_long (Err fault) f long after = long

tests_fail_long : (a b c : Bool) (place n : ℕ) (head : PacketHead)
    → FailsLong {A = Option PacketHead} (cond a (Ok None) (cond b (Err (TooLong place n)) (cond c (Ok None) (Ok (Some head)))))
tests_fail_long true b c place n head = tt
tests_fail_long false true c place n head = tt
tests_fail_long false false true place n head = tt
tests_fail_long false false false place n head = tt

packet_head_fails_long : (format : Format) (place : ℕ) (left : List ℕ) → FailsLong (packet_head format place left)
unfolding packet_head
packet_head_fails_long format place left = tests_fail_long _ _ _ place _ _

with_packet_fails_long : (packet : Stamp × List ℕ) (behind : Result Capture CaptureFault) → FailsLong behind
    → FailsLong (with_packet packet behind)
with_packet_fails_long packet (Ok capture) long = long
with_packet_fails_long packet (Err fault) long = long

no_more_fails_long : (b : Bool) (cut : Option ℕ) (read : Result Capture CaptureFault) → FailsLong read
    → FailsLong (cond b (no_more_packets cut) read)
no_more_fails_long true cut read long = tt
no_more_fails_long false cut read long = long

cut_fails_long : (found : Option PacketHead) (place : ℕ) (f : PacketHead → Result Capture CaptureFault)
    → ((head : PacketHead) → FailsLong (f head)) → FailsLong (option_map_or f found (no_more_packets (Some place)))
cut_fails_long None place f long = tt
cut_fails_long (Some head) place f long = long head

packets_fail_long : (turns : ℕ) (format : Format) (place : ℕ) (left : List ℕ) → FailsLong (packets turns format place left)
unfolding packets
packets_fail_long zero format place left = tt
packets_fail_long (suc turns) format place left =
    no_more_fails_long (eqb (length left) 0) None _
    (bound_fails_long (packet_head format place left) _ (packet_head_fails_long format place left)
    (λ found. cut_fails_long found place _
    (λ head. with_packet_fails_long _ _ (packets_fail_long turns format (place + 16 + head.len) (drop head.len (drop 16 left))))))

bound_fault : (r : Result Format CaptureFault) (f : Format → Result Capture CaptureFault) (fault : CaptureFault)
    → (IsLong fault → ⊥) → ((x : Format) → FailsLong (f x)) → (r >>= f) ≡ Err fault → r ≡ Err fault
bound_fault (Ok x) f fault short long h =
    absurd (short (subst (λ (read : Result Capture CaptureFault). FailsLong read) h (long x)))
bound_fault (Err other) f fault short long h = cc h

head_of-fault : (bytes : List ℕ) (fault : CaptureFault) → (IsLong fault → ⊥) → capture_of bytes ≡ Err fault
    → head_of bytes ≡ Err fault
unfolding capture_of
head_of-fault bytes fault short h =
    bound_fault (head_of bytes) (λ format. packets (length bytes) format 24 (drop 24 bytes)) fault short
    (λ format. packets_fail_long (length bytes) format 24 (drop 24 bytes)) h

pub head_faults : (bytes : List ℕ) → IsBytes bytes → HeadFaults bytes
head_faults bytes fits =
    let one : IsOneOf bytes = one_of bytes fits in
    record {
      short =
          λ n. (
            λ read. short_is bytes n one (head_of-fault bytes (ShortHeader n) (λ long. long) read),
            λ is. capture_of-fault bytes (ShortHeader n) (short_read n bytes is),
          );
      no_magic = (
        λ read. no_magic_is bytes one (head_of-fault bytes NoMagic (λ long. long) read),
        λ is. capture_of-fault bytes NoMagic (no_magic_read bytes fits is),
      );
      version = (
        λ read. version_is_other bytes one (head_of-fault bytes BadVersion (λ long. long) read),
        λ is. capture_of-fault bytes BadVersion (version_read bytes is),
      );
      link =
          λ n. (
            λ read. link_is_other bytes n one (head_of-fault bytes (BadLink n) (λ long. long) read),
            λ is. capture_of-fault bytes (BadLink n) (link_read n bytes is),
          );
      fine = λ format. (fine_is bytes format one, fine_read format bytes);
      none = (ok_is_none bytes fits, none_is_ok bytes one);
    }
