-- The laws of all of a value's bytes.
use Rattle.std.proofs.Common.{◌≡◌, ◌+◌, ℕ, zero, suc, true, false, eqb, ◌&&◌, not, nat_le, List, [], ◌∷◌, ◌++◌, length, take, Ok, Err, refl, sym}
use Rattle.std.proofs.Common.{ap, ◌∙◌, append-nil, arith}
use Rattle.std.specs.Result.{IsOk}
use Rattle.std.proofs.lemmas.Bool.{and_parts, ne_eqb}
use Rattle.ng_shape.specs.Shape.{Shape, Nothing, UInt, Int, Hex, Str, Ether, Struct, Array, Counted, Fields, no_fields, field, CountField}
use Rattle.ng_shape.specs.Sound.{IsShape, is_counted, is_sound, depth}
use Rattle.ng_shape.specs.Values.{Value, number, chars, members, find, count_in}
use Rattle.ng_shape.specs.Layout.{width, gap, end_gap, zeros, number_bytes, text_bytes, array_bytes, layout, fields_bytes, counts_nothing, bytes_of}
use Rattle.ng_shape.specs.Decoding.{Read, value_in, all_read, value_from}
use Rattle.ng_shape.specs.Canonical.{AreBytes, Fits, FitFields, EachFits, IsFitting, IsClean, IsCanonical, plain_of}
use Rattle.ng_shape.specs.Laws.{FittingIsCanonical, FittingIsGivenBack, CanonicalIsLayout}
use Rattle.ng_shape.proofs.Pieces.{bytes_join, bytes_take, bytes_zeros, bytes_number, bytes_chars}
use Rattle.ng_shape.proofs.Agreeing.{Agree}
use Rattle.ng_shape.proofs.Again.{value_again}
use Rattle.ng_shape.proofs.Back.{value_back}

agree_same : (f : Shape) (c : CountField → ℕ) → Agree f c c
agree_same Nothing c = tt
agree_same (UInt bits) c = tt
agree_same (Int bits) c = tt
agree_same (Hex bits) c = tt
agree_same (Str n) c = tt
agree_same Ether c = tt
agree_same (Struct ps) c = tt
agree_same (Array n f) c = agree_same f c
agree_same (Counted by max f) c = (refl, agree_same f c)

-- ---- a value's bytes are bytes

number_good : (w at n : ℕ) → AreBytes (number_bytes w at n)
number_good w at n = bytes_join (zeros (gap w at)) _ (bytes_zeros (gap w at)) (bytes_number w 0 n)

text_good : (n : ℕ) (cs : List ℕ) → AreBytes cs → AreBytes (text_bytes n cs)
text_good n cs good = bytes_join (take n cs) _ (bytes_take n cs good) (bytes_zeros _)

array_good : (element : Value → ℕ → List ℕ) (P : Value → Type 0) → ((v : Value) (at : ℕ) → P v → AreBytes (element v at)) → (ms : List (ℕ × Value)) (i k at : ℕ) → EachFits P ms i k → AreBytes (array_bytes element ms i k at)
unfolding array_bytes
array_good element P each ms i zero at fits = tt
array_good element P each ms i (suc k) at fits =
    bytes_join (element (find i ms) at) _ (each (find i ms) at (fits i (omega arith) (omega arith))) (array_good element P each ms (i + 1) k (at + length (element (find i ms) at)) (λ j le lt. fits j (omega arith) (omega arith)))

mutual
  unfolding layout fields_bytes

  layout_good : (f : Shape) (c : CountField → ℕ) (v : Value) (at : ℕ) → Fits f c v → AreBytes (layout f c v at)
  layout_good Nothing c v at fits = tt
  layout_good (UInt bits) c v at fits = number_good (width bits) at (number v)
  layout_good (Int bits) c v at fits = number_good (width bits) at (number v)
  layout_good (Hex bits) c v at fits = number_good (width bits) at (number v)
  layout_good (Str n) c v at fits = text_good n (chars v) (bytes_chars (chars v) fits.0)
  layout_good Ether c v at fits = text_good 6 (chars v) fits.0
  layout_good (Struct ps) c v at fits =
      let fields = fields_bytes ps (count_in ps (members v)) (members v) 0 0 in
      bytes_join fields _ (fields_good ps (count_in ps (members v)) (members v) 0 0 fits) (bytes_zeros (end_gap ps (length fields)))
  layout_good (Array n f) c v at fits = array_good (layout f c) (Fits f c) (λ w at fits. layout_good f c w at fits) (members v) 0 n at fits
  layout_good (Counted by max f) c v at fits = array_good (layout f c) (Fits f c) (λ w at fits. layout_good f c w at fits) (members v) 0 (c by) at fits.1

  fields_good : (ps : Fields) (c : CountField → ℕ) (ms : List (ℕ × Value)) (j at : ℕ) → FitFields ps c ms j → AreBytes (fields_bytes ps c ms j at)
  fields_good no_fields c ms j at fits = tt
  fields_good (field name f ps) c ms j at fits =
      bytes_join (layout f c (find j ms) at) _ (layout_good f c (find j ms) at fits.0) (fields_good ps c ms (j + 1) (at + length (layout f c (find j ms) at)) fits.1)

-- ---- the laws

sound_shape : (f : Shape) → IsShape f → is_sound f ≡ true
sound_shape f shape =
    let both = and_parts (not (is_counted f) && is_sound f) (nat_le (depth f) 16) shape in
    (and_parts (not (is_counted f)) (is_sound f) both.0).1

-- all of the bytes are read, and clean
all_again : (f : Shape) (v : Value) → IsShape f → IsFitting f v → (value_in f counts_nothing (length (bytes_of f v)) (bytes_of f v) ≡ Ok (plain_of f v, [])) × IsClean f counts_nothing (length (bytes_of f v)) (bytes_of f v)
all_again f v shape fits =
    let bytes = bytes_of f v in
    let whole : bytes ++ [] ≡ bytes = append-nil bytes in
    let again = value_again f counts_nothing counts_nothing v 0 (length bytes) [] (sound_shape f shape) (agree_same f counts_nothing) fits (omega (arith, ap length whole)) in
    rw whole at again

pub fitting_given_back : FittingIsGivenBack
unfolding value_from
fitting_given_back = λ f v shape fits. ap (all_read (length (bytes_of f v))) (all_again f v shape fits).0

pub fitting_canonical : FittingIsCanonical
unfolding IsCanonical
fitting_canonical = λ f v shape fits. (layout_good f counts_nothing v 0 fits, rw (fitting_given_back f v shape fits) refl, (all_again f v shape fits).1)

all_ok : (had : ℕ) (r : Read Value) → IsOk (all_read had r) → (v : Value) × (r ≡ Ok (v, [])) × (all_read had r ≡ Ok v)
all_ok had (Ok (v, [])) ok = (v, refl, refl)
all_ok had (Ok (v, b ∷ bs)) ok =
    let some : eqb 0 (length (b ∷ bs)) ≡ false = ne_eqb 0 (length (b ∷ bs)) (λ e. omega (arith, e)) in
    let wrong = rw some at ok in cc
all_ok had (Err missing) ok = cc

pub canonical_layout : CanonicalIsLayout
unfolding IsCanonical value_from
canonical_layout = λ f bytes shape canonical.
    let (v, read, all) = all_ok (length bytes) (value_in f counts_nothing (length bytes) bytes) canonical.1 in
    let (fits, same) = value_back f counts_nothing counts_nothing v 0 (length bytes) bytes [] (sound_shape f shape) (agree_same f counts_nothing) canonical.0 (omega arith) read canonical.2 in
    let whole : bytes_of f v ≡ bytes = sym (append-nil (bytes_of f v)) ∙ same in
    let again : value_from f bytes ≡ Ok (plain_of f v) = ap (value_from f) (sym whole) ∙ fitting_given_back f v shape fits in
    let both : Ok (plain_of f v) ≡ Ok v = sym again ∙ all in
    (v, all, fits, cc, whole)
