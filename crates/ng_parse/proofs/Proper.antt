-- Values that have a text which is read again: those that canonical bytes give.
use Rattle.std.proofs.Common.{◌≡◌, ◌<◌, ◌≤◌, ◌+◌, ℕ, zero, suc, true, false, eqb, ◌&&◌, not, List, [], ◌∷◌, ◌++◌, length, take, Some, refl, sym, ap}
use Rattle.std.proofs.Common.{◌∙◌, subst, inl, inr, arith}
use Rattle.std.proofs.lemmas.Bool.{and_parts, cond_both, eqb-true, eqb-false}
use Rattle.ng_shape.specs.Shape.{Shape, Nothing, UInt, Int, Hex, Str, Ether, Struct, Array, Counted, Fields, no_fields, field, CountField}
use Rattle.ng_shape.specs.Sound.{is_sound, are_sound, has_names, has_counts, is_counted}
use Rattle.ng_shape.specs.Values.{Value, Absent, Number, Text, Group, is_absent, number, chars, members, find, count_in}
use Rattle.ng_shape.specs.Layout.{zeros, text_bytes}
use Rattle.ng_shape.specs.Decoding.{given, text_value, address_value, has_other_than_zero, group_value}
use Rattle.ng_shape.specs.Canonical.{AreBytes, AreChars, Fits, FitFields, plain, plain_fields, plain_array}
use Rattle.ng_shape.proofs.Lookups.{bool_cases, shape_at, find_given_other, find_given_same}
use Rattle.ng_shape.proofs.Agreeing.{members_group, plain_at}
use Rattle.ng_shape.proofs.Pieces.{bytes_join, bytes_take, bytes_zeros}
use Rattle.ng_shape.proofs.Again.{text_length}
use Rattle.ng_parse.specs.Reading.{limit}
use Rattle.ng_parse.specs.Printing.{address_bytes}
use Rattle.ng_parse.proofs.Kept.{limit_is}

-- members by ascending numbers from low on, all below high, and none of them nothing
abbrev pub Ordered : (Value → Type 0) → ℕ → ℕ → List (ℕ × Value) → Type 0
Ordered P low high [] = Unit {0}
Ordered P low high (m ∷ ms) = (low ≤ m.0) × (m.0 < high) × (is_absent m.1 ≡ false) × P m.1 × Ordered P (m.0 + 1) high ms

abbrev pub IsAddress : List ℕ → Type 0
IsAddress cs = AreBytes (address_bytes cs) × (length (address_bytes cs) ≡ 6) × (text_bytes 6 (address_bytes cs) ≡ text_bytes 6 cs)

abbrev mutual
  pub Proper : Shape → (CountField → ℕ) → Value → Type 0
  Proper Nothing c v = v ≡ Absent
  Proper (UInt bits) c v = number v < limit bits
  Proper (Int bits) c v = number v < limit bits
  Proper (Hex bits) c v = number v < limit bits
  Proper (Str n) c v = (number v ≡ 0) × AreChars (chars v) × (length (chars v) < n)
  Proper Ether c v = (number v ≡ 0) × IsAddress (chars v)
  Proper (Struct ps) c v = (number v ≡ 0) × ProperFields ps (count_in ps (members v)) (members v) 0
  Proper (Array n f) c v = (number v ≡ 0) × Ordered (Proper f c) 0 n (members v)
  Proper (Counted by max f) c v = (number v ≡ 0) × (c by ≤ max) × Ordered (Proper f c) 0 (c by) (members v)

  pub ProperFields : Fields → (CountField → ℕ) → List (ℕ × Value) → ℕ → Type 0
  ProperFields no_fields c ms i = Unit {0}
  ProperFields (field name f ps) c ms i = Proper f c (find i ms) × ProperFields ps c ms (i + 1)

-- ---- rows

find_none_before : (made : Value → Value) (ms : List (ℕ × Value)) (j i k : ℕ) → j < i → find j (plain_array made ms i k) ≡ Absent
find_none_before made ms j i zero lt = refl
find_none_before made ms j i (suc k) lt = find_given_other j i (made (find i ms)) (plain_array made ms (i + 1) k) (λ e. omega (arith, e)) ∙ find_none_before made ms j (i + 1) k (omega arith)

find_row : (made : Value → Value) (ms : List (ℕ × Value)) (k i j : ℕ) → i ≤ j → j < i + k → find j (plain_array made ms i k) ≡ made (find j ms)
find_row made ms zero i j le lt = absurd (omega arith)
find_row made ms (suc k) i j le lt =
    elim (bool_cases (eqb i j)) [
      | inl hit ↦ let same : i ≡ j = eqb-true i j hit in rw (← same) (find_given_same i (made (find i ms)) (plain_array made ms (i + 1) k) (find_none_before made ms i (i + 1) k (omega arith)))
      | inr miss ↦ let other = eqb-false i j miss in find_given_other j i (made (find i ms)) (plain_array made ms (i + 1) k) (λ e. other (sym e)) ∙ find_row made ms k (i + 1) j (omega (arith, other)) (omega arith)
    ]

lower : (P : Value → Type 0) (a b high : ℕ) (ms : List (ℕ × Value)) → a ≤ b → Ordered P b high ms → Ordered P a high ms
lower P a b high [] le o = tt
lower P a b high (m ∷ ms) le o = (omega (arith, o.0), o.1, o.2, o.3, o.4)

ordered_given : (P : Value → Type 0) (i high : ℕ) (v : Value) (ms : List (ℕ × Value)) → i < high → P v → Ordered P (i + 1) high ms → Ordered P i high (given i v ++ ms)
ordered_given P i high Absent ms lt p o = lower P i (i + 1) high ms (omega arith) o
ordered_given P i high (Number left n) ms lt p o = (omega arith, lt, refl, p, o)
ordered_given P i high (Text bs) ms lt p o = (omega arith, lt, refl, p, o)
ordered_given P i high (Group left ks) ms lt p o = (omega arith, lt, refl, p, o)

ordered_row : (P : Value → Type 0) (made : Value → Value) (ms : List (ℕ × Value)) (k i : ℕ) → ((j : ℕ) → i ≤ j → j < i + k → P (made (find j ms))) → Ordered P i (i + k) (plain_array made ms i k)
ordered_row P made ms zero i each = tt
ordered_row P made ms (suc k) i each =
    let more : Ordered P (i + 1) (i + 1 + k) (plain_array made ms (i + 1) k) = ordered_row P made ms k (i + 1) (λ j le lt. each j (omega arith) (omega arith)) in
    let high : i + 1 + k ≡ i + suc k = omega arith in
    ordered_given P i (i + suc k) (made (find i ms)) (plain_array made ms (i + 1) k) (omega arith) (each i (omega arith) (omega arith)) (subst (λ (h : ℕ). Ordered P (i + 1) h (plain_array made ms (i + 1) k)) high more)

-- ---- what bytes give back

number_text : (cs : List ℕ) → number (text_value cs) ≡ 0
number_text [] = refl
number_text (c ∷ cs) = refl

number_address : (cs : List ℕ) → number (address_value cs) ≡ 0
number_address cs = cond_both (has_other_than_zero cs) (Text cs) Absent (λ v. number v ≡ 0) (λ e. refl) (λ e. refl)

number_group : (ms : List (ℕ × Value)) → number (group_value ms) ≡ 0
number_group [] = refl
number_group (m ∷ ms) = refl

address_zeros : IsAddress []
address_zeros = (bytes_zeros 6, refl, refl)

address_some : (cs : List ℕ) → AreBytes cs → length cs ≡ 6 → IsAddress cs
address_some [] all long = absurd (omega (arith, long))
address_some (c ∷ cs) all long = (all, long, refl)

address_is : (cs : List ℕ) → AreBytes cs → length cs ≡ 6 → IsAddress (chars (address_value cs))
address_is cs all long = cond_both (has_other_than_zero cs) (Text cs) Absent (λ v. IsAddress (chars v)) (λ e. address_some cs all long) (λ e. address_zeros)

same_found : (made : Value → Value) (listed ms : List (ℕ × Value)) (j : ℕ) → listed ≡ ms → find j listed ≡ made (find j ms) → made (find j ms) ≡ find j ms
same_found made listed ms j same found = sym found ∙ ap (find j) same

mutual
  unfolding plain plain_fields

  pub proper : (f : Shape) (c : CountField → ℕ) (v : Value) → is_sound f ≡ true → Fits f c v → plain f c v ≡ v → Proper f c v
  proper Nothing c v sound fits same = sym same
  proper (UInt bits) c v sound fits same = rw (limit_is bits sound) fits
  proper (Int bits) c v sound fits same = rw (limit_is bits sound) fits
  proper (Hex bits) c v sound fits same = rw (limit_is bits sound) fits
  proper (Str n) c v sound fits same = (ap number (sym same) ∙ number_text (chars v), fits.0, fits.1)
  proper Ether c v sound fits same =
      let bytes = text_bytes 6 (chars v) in
      let good : AreBytes bytes = bytes_join (take 6 (chars v)) (zeros _) (bytes_take 6 (chars v) fits.0) (bytes_zeros _) in
      (ap number (sym same) ∙ number_address bytes, subst (λ (w : Value). IsAddress (chars w)) same (address_is bytes good (text_length 6 (chars v))))
  proper (Struct ps) c v sound fits same =
      let ms = members v in
      let listed : plain_fields ps (count_in ps ms) ms 0 ≡ ms = sym (members_group (plain_fields ps (count_in ps ms) ms 0)) ∙ ap members same in
      let both = and_parts (has_names ps && has_counts ps 0 ps) (are_sound ps) sound in
      (ap number (sym same) ∙ number_group (plain_fields ps (count_in ps ms) ms 0), proper_fields ps ps (count_in ps ms) ms 0 both.1 (λ k. ap (shape_at ps) (omega arith)) fits listed)
  proper (Array n f) c v sound fits same =
      let both = and_parts (not (is_counted f)) (is_sound f) sound in
      let ms = members v in
      let listed : plain_array (plain f c) ms 0 n ≡ ms = sym (members_group (plain_array (plain f c) ms 0 n)) ∙ ap members same in
      let high : 0 + n ≡ n = omega arith in
      let back = λ (j : ℕ) (le : 0 ≤ j) (lt : j < 0 + n). same_found (plain f c) (plain_array (plain f c) ms 0 n) ms j listed (find_row (plain f c) ms n 0 j le lt) in
      let each = λ (j : ℕ) (le : 0 ≤ j) (lt : j < 0 + n). subst (Proper f c) (sym (back j le lt)) (proper f c (find j ms) both.1 (fits j le lt) (back j le lt)) in
      (ap number (sym same) ∙ number_group (plain_array (plain f c) ms 0 n), subst (Ordered (Proper f c) 0 n) listed (subst (λ (h : ℕ). Ordered (Proper f c) 0 h (plain_array (plain f c) ms 0 n)) high (ordered_row (Proper f c) (plain f c) ms n 0 each)))
  proper (Counted by max f) c v sound fits same =
      let both = and_parts (not (is_counted f)) (is_sound f) sound in
      let ms = members v in
      let n = c by in
      let listed : plain_array (plain f c) ms 0 n ≡ ms = sym (members_group (plain_array (plain f c) ms 0 n)) ∙ ap members same in
      let high : 0 + n ≡ n = omega arith in
      let back = λ (j : ℕ) (le : 0 ≤ j) (lt : j < 0 + n). same_found (plain f c) (plain_array (plain f c) ms 0 n) ms j listed (find_row (plain f c) ms n 0 j le lt) in
      let each = λ (j : ℕ) (le : 0 ≤ j) (lt : j < 0 + n). subst (Proper f c) (sym (back j le lt)) (proper f c (find j ms) both.1 (fits.1 j le lt) (back j le lt)) in
      (ap number (sym same) ∙ number_group (plain_array (plain f c) ms 0 n), fits.0, subst (Ordered (Proper f c) 0 n) listed (subst (λ (h : ℕ). Ordered (Proper f c) 0 h (plain_array (plain f c) ms 0 n)) high (ordered_row (Proper f c) (plain f c) ms n 0 each)))

  proper_fields : (ps whole : Fields) (c : CountField → ℕ) (ms : List (ℕ × Value)) (i : ℕ) → are_sound ps ≡ true → ((k : ℕ) → shape_at whole (i + k) ≡ shape_at ps k) → FitFields ps c ms i → plain_fields whole c ms 0 ≡ ms → ProperFields ps c ms i
  proper_fields no_fields whole c ms i sound forms fits listed = tt
  proper_fields (field name f ps) whole c ms i sound forms fits listed =
      let both = and_parts (is_sound f) (are_sound ps) sound in
      let here : shape_at whole i ≡ Some f = ap (shape_at whole) (omega arith) ∙ forms 0 in
      let back : plain f c (find i ms) ≡ find i ms = sym (plain_at whole c ms i 0 i f (omega arith) here) ∙ ap (find i) listed in
      (proper f c (find i ms) both.0 fits.0 back, proper_fields ps whole c ms (i + 1) both.1 (λ k. let next : i + 1 + k ≡ i + suc k = omega arith in ap (shape_at whole) next ∙ forms (suc k)) fits.1 listed)
