-- The bytes of a fitting value are clean and give it back.
use Rattle.std.proofs.Common.{◌≡◌, ◌≤◌, ◌<◌, ◌+◌, ◌-◌, ◌^◌, ℕ, zero, suc, true, eqb, ◌&&◌, not, List, [], ◌∷◌, ◌++◌, length, take, drop, Ok, IfOk}
use Rattle.std.proofs.Common.{refl, sym, ap, ◌∙◌, append_assoc, append-nil, length-append, inl, inr, arith}
use Rattle.std.proofs.lemmas.Bool.{and_parts, eqb-true}
use Rattle.std.proofs.lemmas.List.{take_at, drop_at, take_all, length-take}
use Rattle.byteorder.specs.Endian.{little_bytes, little_number}
use Rattle.byteorder.specs.Numbers.{little_number-reads_back, length-bytes_low_first}
use Rattle.ng_shape.specs.Shape.{Shape, Nothing, UInt, Int, Hex, Str, Ether, Struct, Array, Counted, Fields, no_fields, field, CountField}
use Rattle.ng_shape.specs.Sound.{first_fields, has_width, is_counted, is_counted_well, has_counts, has_names, is_sound, are_sound}
use Rattle.ng_shape.specs.Values.{Value, number, chars, members, find, count_in}
use Rattle.ng_shape.specs.Layout.{width, gap, end_gap, zeros, number_bytes, text_bytes, pad_end, array_bytes, layout, fields_bytes}
use Rattle.ng_shape.specs.Decoding.{Read, take_exactly, given, number_value, text_value, address_value, group_value, before_nul, number_in, text_in}
use Rattle.ng_shape.specs.Decoding.{address_in, array_in, read_end, value_in, read_fields}
use Rattle.ng_shape.specs.Canonical.{AreChars, Fits, FitFields, EachFits, plain, plain_array, plain_fields, AreZeros, IsPadded, PaddingIsZero}
use Rattle.ng_shape.specs.Canonical.{EachClean, IsClean, AreFieldsClean}
use Rattle.ng_shape.proofs.Reading.{take_exactly_ok}
use Rattle.ng_shape.proofs.Pieces.{before_zeros, zeros_length, zeros_are}
use Rattle.ng_shape.proofs.Lookups.{bool_cases}
use Rattle.ng_shape.proofs.Agreeing.{Agree, agree_field, plain_counts}

pub take_exactly_piece : (n : ℕ) (xs rest : List ℕ) → length xs ≡ n → take_exactly n (xs ++ rest) ≡ Ok (xs, rest)
take_exactly_piece n xs rest e =
    let le : n ≤ length (xs ++ rest) = omega (arith, length-append xs rest) in
    take_exactly_ok n (xs ++ rest) le ∙ rw (take_at xs rest n e, drop_at xs rest n e) refl

pub width_power : (bits : ℕ) → has_width bits ≡ true → 256 ^ width bits ≡ 2 ^ bits
width_power bits e =
    elim (bool_cases (eqb bits 8)) [
      | inl hit ↦ let is : bits ≡ 8 = eqb-true bits 8 hit in rw is refl
      | inr a ↦ elim (bool_cases (eqb bits 16)) [
        | inl hit ↦ let is : bits ≡ 16 = eqb-true bits 16 hit in rw is refl
        | inr b ↦ elim (bool_cases (eqb bits 32)) [
          | inl hit ↦ let is : bits ≡ 32 = eqb-true bits 32 hit in rw is refl
          | inr d ↦ elim (bool_cases (eqb bits 64)) [
            | inl hit ↦ let is : bits ≡ 64 = eqb-true bits 64 hit in rw is refl
            | inr h ↦ let none = rw (a, b, d, h) at e in cc
          ]
        ]
      ]
    ]

-- ---- leaves

number_again : (bits n at front : ℕ) (rest : List ℕ) → has_width bits ≡ true → n < 2 ^ bits → front ≡ at + length (number_bytes (width bits) at n ++ rest)
    → (number_in (width bits) front (number_bytes (width bits) at n ++ rest) ≡ Ok (number_value n, rest)) × PaddingIsZero (width bits) front (number_bytes (width bits) at n ++ rest)
unfolding number_in
number_again bits n at front rest wide low place =
    let w = width bits in
    let g = gap w at in
    let digits = little_bytes w n in
    let bytes = number_bytes w at n ++ rest in
    let regroup : bytes ≡ zeros g ++ (digits ++ rest) = append_assoc (zeros g) digits rest in
    let here : front - length bytes ≡ at = omega arith in
    let padding : take_exactly g (zeros g ++ (digits ++ rest)) ≡ Ok (zeros g, digits ++ rest) = take_exactly_piece g (zeros g) (digits ++ rest) (zeros_length g) in
    let integer : take_exactly w (digits ++ rest) ≡ Ok (digits, rest) = take_exactly_piece w digits rest (length-bytes_low_first 0 w n) in
    let low' : n < 256 ^ w = rw (width_power bits wide) low in
    let value : little_number w digits ≡ n = ap (little_number w) (sym (append-nil digits)) ∙ little_number-reads_back w n [] low' in
    let taken : take g bytes ≡ zeros g = ap (take g) regroup ∙ take_at (zeros g) (digits ++ rest) g (zeros_length g) in
    (rw (here, regroup, padding, integer, value) refl, rw (here, taken) (zeros_are g))

pub text_length : (n : ℕ) (cs : List ℕ) → length (text_bytes n cs) ≡ n
text_length n cs = omega (arith, length-append (take n cs) (zeros (n - length cs)), length-take n cs, zeros_length (n - length cs))

text_is : (n k : ℕ) (cs : List ℕ) → n ≡ length cs + suc k → text_bytes n cs ≡ cs ++ 0 ∷ zeros k
text_is n k cs e =
    let some : n - length cs ≡ suc k = omega arith in
    rw (take_all n cs (omega arith), some) refl

text_again : (n : ℕ) (cs rest : List ℕ) → AreChars cs → length cs < n
    → (text_in n (text_bytes n cs ++ rest) ≡ Ok (text_value cs, rest)) × IsPadded (take n (text_bytes n cs ++ rest))
unfolding text_in
text_again n cs rest good lt =
    let k = n - length cs - 1 in
    let is : text_bytes n cs ≡ cs ++ 0 ∷ zeros k = text_is n k cs (omega arith) in
    let before : before_nul (text_bytes n cs) ≡ cs = ap before_nul is ∙ before_zeros cs (zeros k) good in
    let taken : take n (text_bytes n cs ++ rest) ≡ text_bytes n cs = take_at (text_bytes n cs) rest n (text_length n cs) in
    let whole : take_exactly n (text_bytes n cs ++ rest) ≡ Ok (text_bytes n cs, rest) = take_exactly_piece n (text_bytes n cs) rest (text_length n cs) in
    let behind : drop (length cs) (text_bytes n cs) ≡ zeros (suc k) = ap (drop (length cs)) is ∙ drop_at cs (zeros (suc k)) (length cs) refl in
    (rw (whole, before) refl, rw (taken, before, behind) (omega (arith, text_length n cs), zeros_are (suc k)))

address_again : (cs rest : List ℕ) → address_in (text_bytes 6 cs ++ rest) ≡ Ok (address_value (text_bytes 6 cs), rest)
unfolding address_in
address_again cs rest = rw (take_exactly_piece 6 (text_bytes 6 cs) rest (text_length 6 cs)) refl

-- ---- elements

array_again : (element : Value → ℕ → List ℕ) (reader : List ℕ → Read Value) (made : Value → Value) (P : Value → Type 0) (Q : List ℕ → Type 0) (front : ℕ)
    → ((v : Value) (at : ℕ) (rest : List ℕ) → P v → front ≡ at + length (element v at ++ rest) → (reader (element v at ++ rest) ≡ Ok (made v, rest)) × Q (element v at ++ rest))
    → (ms : List (ℕ × Value)) (i k : ℕ) (so_far : List (ℕ × Value)) (at : ℕ) (rest : List ℕ) → EachFits P ms i k → front ≡ at + length (array_bytes element ms i k at ++ rest)
    → (array_in reader i k so_far (array_bytes element ms i k at ++ rest) ≡ Ok (so_far ++ plain_array made ms i k, rest)) × EachClean Q reader k (array_bytes element ms i k at ++ rest)
unfolding array_in array_bytes EachClean
array_again element reader made P Q front each ms i zero so_far at rest fits place = (rw (append-nil so_far) refl, tt)
array_again element reader made P Q front each ms i (suc k) so_far at rest fits place =
    let v = find i ms in
    let piece = element v at in
    let more = array_bytes element ms (i + 1) k (at + length piece) in
    let regroup : (piece ++ more) ++ rest ≡ piece ++ (more ++ rest) = append_assoc piece more rest in
    let place' : front ≡ at + length (piece ++ (more ++ rest)) = place ∙ ap (λ (x : List ℕ). at + length x) regroup in
    let one = each v at (more ++ rest) (fits i (omega arith) (omega arith)) place' in
    let next = so_far ++ given i (made v) in
    let ih = array_again element reader made P Q front each ms (i + 1) k next (at + length piece) rest (λ j le lt. fits j (omega arith) (omega arith)) (omega (arith, length-append piece (more ++ rest))) in
    (rw (regroup, one.0) (ih.0 ∙ ap (λ (x : List (ℕ × Value)). Ok (x, rest)) (append_assoc so_far (given i (made v)) (plain_array made ms (i + 1) k))), rw regroup (one.1, rw one.0 ih.1))

-- ---- structures

-- a structure, where its fields are read again
fields_again : (ps : Fields) (ms : List (ℕ × Value)) (rest : List ℕ) →
    let fields = fields_bytes ps (count_in ps ms) ms 0 0 in
    let behind = zeros (end_gap ps (length fields)) ++ rest in
    let bytes = fields ++ behind in
    (read_fields ps ps 0 [] (length bytes) bytes ≡ Ok (plain_fields ps (count_in ps ms) ms 0, behind)) × AreFieldsClean ps ps 0 [] (length bytes) bytes
    → (read_end ps (pad_end ps fields ++ rest) (read_fields ps ps 0 [] (length (pad_end ps fields ++ rest)) (pad_end ps fields ++ rest)) ≡ Ok (group_value (plain_fields ps (count_in ps ms) ms 0), rest))
    × (AreFieldsClean ps ps 0 [] (length (pad_end ps fields ++ rest)) (pad_end ps fields ++ rest)
    × IfOk (read_fields ps ps 0 [] (length (pad_end ps fields ++ rest)) (pad_end ps fields ++ rest)) (λ x. AreZeros (take (end_gap ps (length (pad_end ps fields ++ rest) - length x.1)) x.1)))
fields_again ps ms rest both =
    let fields = fields_bytes ps (count_in ps ms) ms 0 0 in
    let n = end_gap ps (length fields) in
    let behind = zeros n ++ rest in
    let regroup : pad_end ps fields ++ rest ≡ fields ++ behind = append_assoc fields (zeros n) rest in
    let size : length (fields ++ behind) - length behind ≡ length fields = omega (arith, length-append fields behind) in
    let padding : take_exactly n behind ≡ Ok (zeros n, rest) = take_exactly_piece n (zeros n) rest (zeros_length n) in
    let taken : take n behind ≡ zeros n = take_at (zeros n) rest n (zeros_length n) in
    rw (regroup) (rw (both.0, size, padding) refl, (both.1, rw (both.0, size, taken) (zeros_are n)))

-- ---- values

mutual
  unfolding layout fields_bytes value_in read_fields plain plain_fields IsClean AreFieldsClean

  pub value_again : (f : Shape) (c d : CountField → ℕ) (v : Value) (at front : ℕ) (rest : List ℕ) → is_sound f ≡ true → Agree f c d → Fits f c v → front ≡ at + length (layout f c v at ++ rest)
      → (value_in f d front (layout f c v at ++ rest) ≡ Ok (plain f c v, rest)) × IsClean f d front (layout f c v at ++ rest)
  value_again Nothing c d v at front rest sound agree fits place = (refl, tt)
  value_again (UInt bits) c d v at front rest sound agree fits place = number_again bits (number v) at front rest sound fits place
  value_again (Int bits) c d v at front rest sound agree fits place = number_again bits (number v) at front rest sound fits place
  value_again (Hex bits) c d v at front rest sound agree fits place = number_again bits (number v) at front rest sound fits place
  value_again (Str n) c d v at front rest sound agree fits place = text_again n (chars v) rest fits.0 fits.1
  value_again Ether c d v at front rest sound agree fits place = (address_again (chars v) rest, tt)
  value_again (Struct ps) c d v at front rest sound agree fits place =
      let ms = members v in
      let fields = fields_bytes ps (count_in ps ms) ms 0 0 in
      let behind = zeros (end_gap ps (length fields)) ++ rest in
      let both = and_parts (has_names ps && has_counts ps 0 ps) (are_sound ps) sound in
      let counts = and_parts (has_names ps) (has_counts ps 0 ps) both.0 in
      fields_again ps ms rest (fields_read_again ps ps ms 0 [] 0 (length (fields ++ behind)) behind both.1 counts.1 fits refl (omega arith))
  value_again (Array n f) c d v at front rest sound agree fits place =
      let both = and_parts (not (is_counted f)) (is_sound f) sound in
      let each = λ (w : Value) (at : ℕ) (rest : List ℕ) (fits : Fits f c w) (place : front ≡ at + length (layout f c w at ++ rest)). value_again f c d w at front rest both.1 agree fits place in
      let row = array_again (layout f c) (value_in f d front) (plain f c) (Fits f c) (IsClean f d front) front each (members v) 0 n [] at rest fits place in
      (rw row.0 refl, row.1)
  value_again (Counted by max f) c d v at front rest sound agree fits place =
      let both = and_parts (not (is_counted f)) (is_sound f) sound in
      let each = λ (w : Value) (at : ℕ) (rest : List ℕ) (fits : Fits f c w) (place : front ≡ at + length (layout f c w at ++ rest)). value_again f c d w at front rest both.1 agree.1 fits place in
      let row = array_again (layout f c) (value_in f d front) (plain f c) (Fits f c) (IsClean f d front) front each (members v) 0 (c by) [] at rest fits.1 place in
      (rw (← agree.0) (rw row.0 refl), rw (← agree.0) (fits.0, row.1))

  fields_read_again : (ps whole : Fields) (ms : List (ℕ × Value)) (j : ℕ) (so_far : List (ℕ × Value)) (at front : ℕ) (rest : List ℕ) → are_sound ps ≡ true → has_counts whole j ps ≡ true → FitFields ps (count_in whole ms) ms j
      → so_far ++ plain_fields ps (count_in whole ms) ms j ≡ plain_fields whole (count_in whole ms) ms 0 → front ≡ at + length (fields_bytes ps (count_in whole ms) ms j at ++ rest)
      → (read_fields whole ps j so_far front (fields_bytes ps (count_in whole ms) ms j at ++ rest) ≡ Ok (so_far ++ plain_fields ps (count_in whole ms) ms j, rest)) × AreFieldsClean whole ps j so_far front (fields_bytes ps (count_in whole ms) ms j at ++ rest)
  fields_read_again no_fields whole ms j so_far at front rest sound counts fits e place = (rw (append-nil so_far) refl, tt)
  fields_read_again (field name f ps) whole ms j so_far at front rest sound counts fits e place =
      let c = count_in whole ms in
      let d = count_in whole so_far in
      let v = find j ms in
      let piece = layout f c v at in
      let more = fields_bytes ps c ms (j + 1) (at + length piece) in
      let regroup : (piece ++ more) ++ rest ≡ piece ++ (more ++ rest) = append_assoc piece more rest in
      let place' : front ≡ at + length (piece ++ (more ++ rest)) = place ∙ ap (λ (x : List ℕ). at + length x) regroup in
      let own = and_parts (is_sound f) (are_sound ps) sound in
      let well = and_parts (is_counted_well (first_fields j whole) f) (has_counts whole (j + 1) ps) counts in
      let agree = agree_field f whole j c d own.0 well.0 (λ by early. plain_counts by (field name f ps) whole c ms so_far j e early) in
      let one = value_again f c d v at front (more ++ rest) own.0 agree fits.0 place' in
      let next = so_far ++ given j (plain f c v) in
      let ih = fields_read_again ps whole ms (j + 1) next (at + length piece) front rest own.1 well.1 fits.1 (append_assoc so_far (given j (plain f c v)) (plain_fields ps c ms (j + 1)) ∙ e) (omega (arith, length-append piece (more ++ rest))) in
      (rw (regroup, one.0) (ih.0 ∙ ap (λ (x : List (ℕ × Value)). Ok (x, rest)) (append_assoc so_far (given j (plain f c v)) (plain_fields ps c ms (j + 1)))), rw regroup (one.1, rw one.0 ih.1))
