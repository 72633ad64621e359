-- Fields and members, one at a time.
use Rattle.std.proofs.Common.{◌≡◌, ◌≢◌, ℕ, zero, suc, ◌+◌, ◌<◌, ◌≤◌, true, false, eqb, List, [], ◌∷◌, ◌++◌, length, get_or, take, drop, Option, Ok}
use Rattle.std.proofs.Common.{refl, ap, arith}
use Rattle.std.proofs.lemmas.Bool.{eq-eqb, ne_eqb}
use Rattle.std.proofs.lemmas.List.{at_drop_all}
use Rattle.ng_shape.specs.declared.shape.Field.{Field}
use Rattle.ng_shape.specs.declared.tree.Member.{Member}
use Rattle.ng_shape.specs.Shape.{shape_of, fields_of}
use Rattle.ng_shape.specs.Values.{Value, Absent, value_of, member_of, members_of, find}
use Rattle.ng_base.specs.declared.memory.Stop.{Stop}
use Rattle.ng_parse.specs.declared.fault.Fault.{Fault}
use Rattle.ng_base.specs.declared.memory.Stop.TheVariants.{Fault as At, NoMemory}
use Rattle.ng_parse.specs.Tokens.{skip_blanks, word, after_word}
use Rattle.ng_parse.specs.Faults.{StopsAt}
use Rattle.ng_parse.specs.Reading.{Reader, known_field, has, mark_at, field_at, read_at, read_field, next_number}
use Rattle.ng_parse.specs.Counts.{without}

pub read_field_is : (fs : List Field) (i : ℕ) (d : Field) → i < length fs → read_field (fields_of fs) i ≡ read_at (shape_of (get_or fs i d).shape)
unfolding read_at read_field
read_field_is [] i d lt = absurd (omega arith)
read_field_is (f ∷ fs) zero d lt = refl
read_field_is (f ∷ fs) (suc i) d lt = read_field_is fs i d (omega arith)

pub next_last : (ms : List Member) (n : ℕ) (d : Member) → length ms ≡ suc n → next_number (members_of ms) ≡ (get_or ms n d).number + 1
next_last [] n d e = absurd (omega (arith, e))
next_last (g ∷ []) zero d e = refl
next_last (g ∷ []) (suc n) d e = absurd (omega (arith, e))
next_last (g ∷ h ∷ ms) zero d e = absurd (omega (arith, e))
next_last (g ∷ h ∷ ms) (suc n) d e = next_last (h ∷ ms) n d (omega (arith, e))

pub found_at : (ms : List Member) (k number : ℕ) (d : Member) → k < length ms → (get_or ms k d).number ≡ number → find number (members_of (drop k ms)) ≡ value_of (get_or ms k d).tree
found_at [] k number d lt e = absurd (omega arith)
found_at (m ∷ ms) zero number d lt e = let hit : eqb m.number number ≡ true = eq-eqb m.number number e in rw hit refl
found_at (m ∷ ms) (suc k) number d lt e = found_at ms k number d (omega arith) e

pub passed_at : (ms : List Member) (k number : ℕ) (d : Member) → k < length ms → (get_or ms k d).number ≢ number → find number (members_of (drop (suc k) ms)) ≡ find number (members_of (drop k ms))
passed_at [] k number d lt ne = absurd (omega arith)
passed_at (m ∷ ms) zero number d lt ne = let miss : eqb m.number number ≡ false = ne_eqb m.number number ne in rw miss refl
passed_at (m ∷ ms) (suc k) number d lt ne = passed_at ms k number d (omega arith) ne

pub kept_at : (ms : List Member) (k number : ℕ) (d : Member) → k < length ms → (get_or ms k d).number ≢ number
    → members_of (take (suc k) ms) ++ without number (members_of (drop (suc k) ms)) ≡ members_of (take k ms) ++ without number (members_of (drop k ms))
kept_at [] k number d lt ne = absurd (omega arith)
kept_at (m ∷ ms) zero number d lt ne = let miss : eqb m.number number ≡ false = ne_eqb m.number number ne in rw miss refl
kept_at (m ∷ ms) (suc k) number d lt ne = ap (λ (x : List (ℕ × Value)). member_of m ∷ x) (kept_at ms k number d (omega arith) ne)

pub not_there : (ms : List Member) (k number : ℕ) → length ms ≤ k → find number (members_of (drop k ms)) ≡ Absent
not_there ms k number le = at_drop_all (λ ks. find number (members_of ks)) ms k le

pub all_kept : (ms : List Member) (k number : ℕ) → length ms ≤ k → members_of (take k ms) ++ without number (members_of (drop k ms)) ≡ members_of ms
all_kept [] zero number le = refl
all_kept [] (suc k) number le = refl
all_kept (m ∷ ms) zero number le = absurd (omega arith)
all_kept (m ∷ ms) (suc k) number le = ap (λ (x : List (ℕ × Value)). member_of m ∷ x) (all_kept ms k number (omega arith))

-- the member taken out at place k, behind others that have another number
pub taken_out : (ms : List Member) (k number : ℕ) (d : Member) → k < length ms → (get_or ms k d).number ≡ number
    → members_of (take k ms) ++ without number (members_of (drop k ms)) ≡ members_of (take k ms ++ drop (suc k) ms)
taken_out [] k number d lt e = absurd (omega arith)
taken_out (m ∷ ms) zero number d lt e = let hit : eqb m.number number ≡ true = eq-eqb m.number number e in rw hit refl
taken_out (m ∷ ms) (suc k) number d lt e = ap (λ (x : List (ℕ × Value)). member_of m ∷ x) (taken_out ms k number d (omega arith) e)

-- the value of a field can't be read
pub field_stops : (number : List ℕ → Option ℕ) (reader : ℕ → Reader) (given : List (ℕ × Value)) (text : List ℕ) (i : ℕ) (behind : List ℕ) (stop : Stop Fault) → known_field text (word text) (number (word text)) ≡ Ok i → has i given ≡ false → mark_at 61 (skip_blanks (after_word text)) ≡ Ok behind → StopsAt stop (reader i (skip_blanks behind))
    → StopsAt stop (field_at number reader given text)
unfolding field_at
field_stops number reader given text i behind NoMemory a b c d = tt
field_stops number reader given text i behind (At fault) a b c d = rw (a, b, c, d) refl
