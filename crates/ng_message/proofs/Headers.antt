-- A header is read back from its bytes, and bytes are those of the header that is read.
use Rattle.std.proofs.Common.{◌≡◌, ◌≤◌, ◌<◌, ◌+◌, ℕ, List, ◌∷◌, ◌++◌, length, take, drop, slice_index, refl, sym, ap, ◌∙◌, arith}
use Rattle.std.proofs.lemmas.Grind.{common_steps}
use Rattle.std.proofs.lemmas.List.{take_at, drop_at, take-append-drop, drop-drop, length-drop, length-take-le, get_or-drop}
use Rattle.byteorder.specs.Endian.{little_bytes, little_number}
use Rattle.byteorder.specs.Numbers.{little_number-reads_back, little_from-lt}
use Rattle.ng_message.specs.declared.message.Header.{Header}
use Rattle.ng_message.specs.Layout.{header_bytes}
use Rattle.ng_message.specs.Message.{IsHeader}

-- the header whose fields stand at these places
abbrev pub header_at : List ℕ → Header
header_at bytes = record {
  version = slice_index bytes 0;
  spare = slice_index bytes 1;
  spare2 = little_number 2 (drop 2 bytes);
  arglen = little_number 4 (drop 4 bytes);
  cmd = little_number 4 (drop 8 bytes);
  flags = little_number 4 (drop 12 bytes);
  token = little_number 4 (drop 16 bytes);
  typecookie = little_number 4 (drop 20 bytes);
  cmdstr = take 32 (drop 24 bytes);
}

pub header_at-header_bytes : (header : Header) (rest : List ℕ) → IsHeader header → header_at (header_bytes header ++ rest) ≡ header
header_at-header_bytes header rest fits =
    let all : List ℕ = header_bytes header ++ rest in
    let spare2 = little_number-reads_back 2 header.spare2 (drop 4 all) fits.spare2 in
    let arglen = little_number-reads_back 4 header.arglen (drop 8 all) fits.arglen in
    let cmd = little_number-reads_back 4 header.cmd (drop 12 all) fits.cmd in
    let flags = little_number-reads_back 4 header.flags (drop 16 all) fits.flags in
    let token = little_number-reads_back 4 header.token (drop 20 all) fits.token in
    let typecookie = little_number-reads_back 4 header.typecookie (drop 24 all) fits.typecookie in
    let cmdstr = take_at header.cmdstr rest 32 fits.name_len in
    rw (spare2, arglen, cmd, flags, token, typecookie, cmdstr) refl

pub drop-header_bytes : (header : Header) (rest : List ℕ) → IsHeader header → drop 56 (header_bytes header ++ rest) ≡ rest
drop-header_bytes header rest fits = drop_at header.cmdstr rest 32 fits.name_len

two_bytes : (bytes : List ℕ) → 2 ≤ length bytes → ((i : ℕ) → slice_index bytes i < 256) → little_bytes 2 (little_number 2 bytes) ≡ take 2 bytes
two_bytes bytes long fits = grind (arith, common_steps)

four_bytes : (bytes : List ℕ) → 4 ≤ length bytes → ((i : ℕ) → slice_index bytes i < 256) → little_bytes 4 (little_number 4 bytes) ≡ take 4 bytes
four_bytes bytes long fits = grind (arith, common_steps)

dropped_fits : (n : ℕ) (bytes : List ℕ) → ((i : ℕ) → slice_index bytes i < 256) → (i : ℕ) → slice_index (drop n bytes) i < 256
dropped_fits n bytes fits i = rw (get_or-drop n bytes i 0) (fits (n + i))

pub IsHeader-header_at : (bytes : List ℕ) → 56 ≤ length bytes → ((i : ℕ) → slice_index bytes i < 256) → IsHeader (header_at bytes)
IsHeader-header_at bytes long fits = record {
  version = fits 0;
  spare = fits 1;
  spare2 = little_from-lt 0 2 (drop 2 bytes) (dropped_fits 2 bytes fits);
  arglen = little_from-lt 0 4 (drop 4 bytes) (dropped_fits 4 bytes fits);
  cmd = little_from-lt 0 4 (drop 8 bytes) (dropped_fits 8 bytes fits);
  flags = little_from-lt 0 4 (drop 12 bytes) (dropped_fits 12 bytes fits);
  token = little_from-lt 0 4 (drop 16 bytes) (dropped_fits 16 bytes fits);
  typecookie = little_from-lt 0 4 (drop 20 bytes) (dropped_fits 20 bytes fits);
  name_len = length-take-le 32 (drop 24 bytes) (omega (arith, length-drop 24 bytes));
}

-- a number's bytes, and behind them what stands there
join_two : (at : ℕ) (bytes behind : List ℕ) → at + 2 ≤ length bytes → ((i : ℕ) → slice_index bytes i < 256) → behind ≡ drop (at + 2) bytes
    → little_bytes 2 (little_number 2 (drop at bytes)) ++ behind ≡ drop at bytes
join_two at bytes behind long fits same =
    let own : little_bytes 2 (little_number 2 (drop at bytes)) ≡ take 2 (drop at bytes) =
    two_bytes (drop at bytes) (omega (arith, length-drop at bytes)) (dropped_fits at bytes fits) in
    ap (λ (l : List ℕ). l ++ behind) own
    ∙ ap (λ (l : List ℕ). take 2 (drop at bytes) ++ l) (same ∙ sym (drop-drop 2 at bytes))
    ∙ take-append-drop 2 (drop at bytes)

join_four : (at : ℕ) (bytes behind : List ℕ) → at + 4 ≤ length bytes → ((i : ℕ) → slice_index bytes i < 256) → behind ≡ drop (at + 4) bytes
    → little_bytes 4 (little_number 4 (drop at bytes)) ++ behind ≡ drop at bytes
join_four at bytes behind long fits same =
    let own : little_bytes 4 (little_number 4 (drop at bytes)) ≡ take 4 (drop at bytes) =
    four_bytes (drop at bytes) (omega (arith, length-drop at bytes)) (dropped_fits at bytes fits) in
    ap (λ (l : List ℕ). l ++ behind) own
    ∙ ap (λ (l : List ℕ). take 4 (drop at bytes) ++ l) (same ∙ sym (drop-drop 4 at bytes))
    ∙ take-append-drop 4 (drop at bytes)

join_ones : (bytes behind : List ℕ) → 2 ≤ length bytes → behind ≡ drop 2 bytes → slice_index bytes 0 ∷ slice_index bytes 1 ∷ behind ≡ bytes
join_ones bytes behind long same = grind (arith, common_steps)

pub header_bytes-header_at : (bytes : List ℕ) → 56 ≤ length bytes → ((i : ℕ) → slice_index bytes i < 256)
    → header_bytes (header_at bytes) ++ drop 56 bytes ≡ bytes
header_bytes-header_at bytes long fits =
    let cmdstr = ap (λ (l : List ℕ). take 32 (drop 24 bytes) ++ l) (sym (drop-drop 32 24 bytes)) ∙ take-append-drop 32 (drop 24 bytes) in
    let typecookie = join_four 20 bytes _ (omega arith) fits cmdstr in
    let token = join_four 16 bytes _ (omega arith) fits typecookie in
    let flags = join_four 12 bytes _ (omega arith) fits token in
    let cmd = join_four 8 bytes _ (omega arith) fits flags in
    let arglen = join_four 4 bytes _ (omega arith) fits cmd in
    let spare2 = join_two 2 bytes _ (omega arith) fits arglen in
    join_ones bytes _ (omega arith) spare2
