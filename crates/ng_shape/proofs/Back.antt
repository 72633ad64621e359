-- Clean bytes are those of the value that they give, which fits.
use Rattle.std.proofs.Common.{◌≡◌, ◌≤◌, ◌<◌, ◌+◌, ◌-◌, ◌^◌, ℕ, zero, suc, true, false, ◌&&◌, not, eqb, List, [], ◌∷◌, ◌++◌, length, take, drop}
use Rattle.std.proofs.Common.{Result, Ok, Err, refl, sym, ap, subst, ◌∙◌, append_assoc, append-nil, length-append, length-drop, inl, inr, arith}
use Rattle.std.proofs.lemmas.Bool.{and_parts, cases_lt, ne_eqb}
use Rattle.std.proofs.lemmas.Result.{IfOk-at_ok}
use Rattle.std.proofs.lemmas.List.{take_all, take-append-drop, length-take-le}
use Rattle.byteorder.specs.Endian.{little_bytes, little_number}
use Rattle.byteorder.specs.Numbers.{little_from-lt}
use Rattle.ng_shape.specs.Shape.{Shape, Nothing, UInt, Int, Hex, Str, Ether, Struct, Array, Counted, Fields, no_fields, field, CountField, Own, Inside}
use Rattle.ng_shape.specs.Sound.{first_fields, has_width, is_counted, is_counted_well, has_counts, has_names, is_sound, are_sound}
use Rattle.ng_shape.specs.Values.{Value, Absent, number, chars, members, find, count_in}
use Rattle.ng_shape.specs.Layout.{width, gap, end_gap, zeros, number_bytes, text_bytes, pad_end, array_bytes, layout, fields_bytes}
use Rattle.ng_shape.specs.Decoding.{Read, ◌>>=◌, take_exactly, given, number_value, text_value, address_value, has_other_than_zero, group_value}
use Rattle.ng_shape.specs.Decoding.{before_nul, number_in, text_in, address_in, array_in, value_in, read_fields}
use Rattle.ng_shape.specs.Canonical.{AreChars, AreBytes, Fits, FitFields, EachFits, AreZeros, IsPadded, PaddingIsZero, EachClean, IsClean, AreFieldsClean}
use Rattle.ng_shape.proofs.Reading.{take_exactly_ok, take_exactly_short}
use Rattle.ng_shape.proofs.Pieces.{number_back, bytes_below, bytes_after, bytes_take, bytes_drop, before_chars, before_front}
use Rattle.ng_shape.proofs.Lookups.{bool_cases, CountsEarly, AllBelow, AllFrom, find_front, find_behind, find_from, find_given_same, below_given, from_given}
use Rattle.ng_shape.proofs.Agreeing.{Agree, agree_field, number_plain, members_group}
use Rattle.ng_shape.proofs.Again.{width_power}

-- ---- what was read before

pub bind_ok : {A B : Type 0} (r : Result A ℕ) (f : A → Result B ℕ) (y : B) → (r >>= f) ≡ Ok y → (x : A) × (r ≡ Ok x) × (f x ≡ Ok y)
bind_ok (Ok x) f y e = (x, refl, e)
bind_ok (Err missing) f y e = cc

pub take_exactly_bind : {B : Type 0} (n : ℕ) (bytes : List ℕ) (f : List ℕ × List ℕ → Result B ℕ) (y : B) → (take_exactly n bytes >>= f) ≡ Ok y → (n ≤ length bytes) × (f (take n bytes, drop n bytes) ≡ Ok y)
take_exactly_bind n bytes f y e =
    elim (cases_lt (length bytes) n) [
      | inl lt ↦ let short = rw (take_exactly_short n bytes lt) at e in cc
      | inr le ↦ (le, rw (take_exactly_ok n bytes le) at e)
    ]

abbrev done : {A B : Type 0} → A → B → Result (A × B) ℕ
done a b = Ok (a, b)

ok_pair : {A B : Type 0} (a a' : A) (b b' : B) → done a b ≡ done a' b' → (a' ≡ a) × (b' ≡ b)
ok_pair {A = A} {B = B} a a' b b' e =
    let x : A × B = (a, b) in
    let y : A × B = (a', b') in
    let same : x ≡ y = cc in
    (ap (λ (z : A × B). z.0) (sym same), ap (λ (z : A × B). z.1) (sym same))

-- ---- leaves

number_fields : (w g : ℕ) (bytes : List ℕ) → AreBytes bytes → w ≤ length (drop g bytes) → take g bytes ≡ zeros g
    → let n = little_number w (take w (drop g bytes)) in (n < 256 ^ w) × ((zeros g ++ little_bytes w n) ++ drop w (drop g bytes) ≡ bytes)
number_fields w g bytes good le padding =
    let mid = drop g bytes in
    let digits = take w mid in
    let n = little_number w digits in
    let good' : AreBytes digits = bytes_take w mid (bytes_drop g bytes good) in
    let long : length digits ≡ w = length-take-le w mid le in
    let spelled : little_bytes w n ≡ digits = number_back w digits good' (omega arith) ∙ take_all w digits (omega arith) in (
      little_from-lt 0 w digits (bytes_below digits good'),
      append_assoc (zeros g) (little_bytes w n) (drop w mid) ∙ rw (spelled, take-append-drop w mid, ← padding) (take-append-drop g bytes),
    )

-- an integer of w bytes behind g bytes of padding
abbrev integer_behind : ℕ → ℕ → List ℕ → Read Value
integer_behind w g bytes = do
  padding ← take_exactly g bytes
  x ← take_exactly w padding.1
  Ok (number_value (little_number w x.0), x.1)

number_taken : (bits at : ℕ) (v : Value) (bytes rest : List ℕ) → has_width bits ≡ true → AreBytes bytes
    → integer_behind (width bits) (gap (width bits) at) bytes ≡ Ok (v, rest) → AreZeros (take (gap (width bits) at) bytes)
    → (number v < 2 ^ bits) × (number_bytes (width bits) at (number v) ++ rest ≡ bytes)
number_taken bits at v bytes rest wide good e clean =
    let w = width bits in
    let g = gap w at in
    let (le, e') = take_exactly_bind {B = Value × List ℕ} g bytes (λ padding. take_exactly w padding.1 >>= λ x. done (number_value (little_number w x.0)) x.1) (v, rest) e in
    let (le', e'') = take_exactly_bind {B = Value × List ℕ} w (drop g bytes) (λ x. done (number_value (little_number w x.0)) x.1) (v, rest) e' in
    let n = little_number w (take w (drop g bytes)) in
    let (is_v, is_rest) = ok_pair (number_value n) v (drop w (drop g bytes)) rest e'' in
    let is_n : number v ≡ n = ap number is_v ∙ number_plain n in
    let padding : take g bytes ≡ zeros g = clean ∙ ap zeros (length-take-le g bytes le) in
    let (low, all) = number_fields w g bytes good le' padding in
    (rw (is_n, ← width_power bits wide) low, rw (is_n, is_rest) all)

number_from : (bits at front : ℕ) (v : Value) (bytes rest : List ℕ) → has_width bits ≡ true → AreBytes bytes → front ≡ at + length bytes → number_in (width bits) front bytes ≡ Ok (v, rest) → PaddingIsZero (width bits) front bytes
    → (number v < 2 ^ bits) × (number_bytes (width bits) at (number v) ++ rest ≡ bytes)
unfolding number_in
number_from bits at front v bytes rest wide good place e clean =
    let w = width bits in
    let here : front - length bytes ≡ at = omega arith in
    number_taken bits at v bytes rest wide good (rw here at e) (rw here at clean)

chars_text : (cs : List ℕ) → chars (text_value cs) ≡ cs
chars_text [] = refl
chars_text (c ∷ cs) = refl

text_from : (n : ℕ) (v : Value) (bytes rest : List ℕ) → AreBytes bytes → text_in n bytes ≡ Ok (v, rest) → IsPadded (take n bytes)
    → (AreChars (chars v) × (length (chars v) < n)) × (text_bytes n (chars v) ++ rest ≡ bytes)
unfolding text_in
text_from n v bytes rest good e clean =
    let (le, e') = take_exactly_bind {B = Value × List ℕ} n bytes (λ x. done (text_value (before_nul x.0)) x.1) (v, rest) e in
    let text = take n bytes in
    let cs = before_nul text in
    let (is_v, is_rest) = ok_pair (text_value cs) v (drop n bytes) rest e' in
    let is_cs : chars v ≡ cs = ap chars is_v ∙ chars_text cs in
    let long : length text ≡ n = length-take-le n bytes le in
    let behind : drop (length cs) text ≡ zeros (n - length cs) = clean.1 ∙ ap zeros (length-drop (length cs) text ∙ ap (λ (m : ℕ). m - length cs) long) in
    let lt : length cs < n = omega (arith, clean.0, long) in
    let all : text_bytes n cs ≡ text = rw (take_all n cs (omega arith), ← behind) (before_front text) in
    ((rw is_cs (before_chars text (bytes_take n bytes good)), rw is_cs lt), rw (is_cs, is_rest, all) (take-append-drop n bytes))

zeros_of : (bytes : List ℕ) → has_other_than_zero bytes ≡ false → bytes ≡ zeros (length bytes)
zeros_of [] none = refl
zeros_of (zero ∷ bytes) none = ap (λ (x : List ℕ). 0 ∷ x) (zeros_of bytes none)
zeros_of (suc b ∷ bytes) none =
    let some : eqb (suc b) 0 ≡ false = ne_eqb (suc b) 0 (λ e. omega (arith, e)) in
    let wrong = rw some at none in cc

address_parts : (address : List ℕ) → AreBytes address → length address ≡ 6 → (AreBytes (chars (address_value address)) × (length (chars (address_value address)) ≤ 6)) × (text_bytes 6 (chars (address_value address)) ≡ address)
address_parts address good long =
    elim (bool_cases (has_other_than_zero address)) [
      | inl hit ↦ rw hit ((good, omega arith), rw (take_all 6 address (omega arith), long) (append-nil address))
      | inr miss ↦ rw miss ((tt, omega arith), sym (zeros_of address miss ∙ ap zeros long))
    ]

address_from : (v : Value) (bytes rest : List ℕ) → AreBytes bytes → address_in bytes ≡ Ok (v, rest)
    → (AreBytes (chars v) × (length (chars v) ≤ 6)) × (text_bytes 6 (chars v) ++ rest ≡ bytes)
unfolding address_in
address_from v bytes rest good e =
    let (le, e') = take_exactly_bind {B = Value × List ℕ} 6 bytes (λ x. done (address_value x.0) x.1) (v, rest) e in
    let address = take 6 bytes in
    let (is_v, is_rest) = ok_pair (address_value address) v (drop 6 bytes) rest e' in
    let (fits, same) = address_parts address (bytes_take 6 bytes good) (length-take-le 6 bytes le) in
    rw (is_v, is_rest) (fits, rw same (take-append-drop 6 bytes))

-- ---- elements

-- what was read behind the members so far
abbrev Extends : ℕ → List (ℕ × Value) → List (ℕ × Value) → Type 0
Extends i so_far final = (extra : List (ℕ × Value)) × (final ≡ so_far ++ extra) × AllFrom i extra

extends_one : (i : ℕ) (v : Value) (so_far final : List (ℕ × Value)) → Extends (i + 1) (so_far ++ given i v) final → Extends i so_far final
extends_one i v so_far final (extra, e, from) = (given i v ++ extra, e ∙ append_assoc so_far (given i v) extra, from_given i v extra from)

extends_none : (i : ℕ) (so_far final : List (ℕ × Value)) → final ≡ so_far → Extends i so_far final
extends_none i so_far final e = ([], e ∙ sym (append-nil so_far), tt)

-- the member that was read here
found_here : (i : ℕ) (v : Value) (so_far final : List (ℕ × Value)) → AllBelow i so_far → Extends (i + 1) (so_far ++ given i v) final → find i final ≡ v
found_here i v so_far final below (extra, e, from) =
    ap (find i) (e ∙ append_assoc so_far (given i v) extra) ∙ find_behind i so_far (given i v ++ extra) below ∙ find_given_same i v extra (find_from i (i + 1) extra from (omega arith))

-- a member that was read before
found_before : (i j : ℕ) (so_far final : List (ℕ × Value)) → Extends j so_far final → i < j → find i final ≡ find i so_far
found_before i j so_far final (extra, e, from) lt = ap (find i) e ∙ find_front i so_far extra (find_from i j extra from lt)

array_extends : (reader : List ℕ → Read Value) (i k : ℕ) (so_far final : List (ℕ × Value)) (bytes rest : List ℕ) → array_in reader i k so_far bytes ≡ Ok (final, rest) → Extends i so_far final
unfolding array_in
array_extends reader i zero so_far final bytes rest e = extends_none i so_far final (ok_pair so_far final bytes rest e).0
array_extends reader i (suc k) so_far final bytes rest e =
    let ((w, mid), one, e') = bind_ok (reader bytes) (λ x. array_in reader (i + 1) k (so_far ++ given i x.0) x.1) (final, rest) e in
    extends_one i w so_far final (array_extends reader (i + 1) k (so_far ++ given i w) final mid rest e')

fields_extend : (ps whole : Fields) (j : ℕ) (so_far final : List (ℕ × Value)) (front : ℕ) (bytes rest : List ℕ) → read_fields whole ps j so_far front bytes ≡ Ok (final, rest) → Extends j so_far final
unfolding value_in read_fields
fields_extend no_fields whole j so_far final front bytes rest e = extends_none j so_far final (ok_pair so_far final bytes rest e).0
fields_extend (field name f ps) whole j so_far final front bytes rest e =
    let ((w, mid), one, e') = bind_ok (value_in f (count_in whole so_far) front bytes) (λ x. read_fields whole ps (j + 1) (so_far ++ given j x.0) front x.1) (final, rest) e in
    extends_one j w so_far final (fields_extend ps whole (j + 1) (so_far ++ given j w) final front mid rest e')

-- the early fields count the same in the end
final_counts : (by : CountField) (whole : Fields) (j : ℕ) (so_far final : List (ℕ × Value)) → Extends j so_far final → CountsEarly whole j by → count_in whole final by ≡ count_in whole so_far by
final_counts (Own name) whole j so_far final more (bits, r) = rw (r.found, found_before r.i j so_far final more r.low) refl
final_counts (Inside name inner) whole j so_far final more (qs, r, (bits, s)) = rw (r.found, found_before r.i j so_far final more r.low) refl

array_back : (element : Value → ℕ → List ℕ) (reader : List ℕ → Read Value) (P : Value → Type 0) (Q : List ℕ → Type 0) (front : ℕ)
    → ((v : Value) (at : ℕ) (bytes rest : List ℕ) → AreBytes bytes → front ≡ at + length bytes → reader bytes ≡ Ok (v, rest) → Q bytes → P v × (element v at ++ rest ≡ bytes))
    → (i k : ℕ) (so_far final : List (ℕ × Value)) (at : ℕ) (bytes rest : List ℕ) → AllBelow i so_far → AreBytes bytes → front ≡ at + length bytes → array_in reader i k so_far bytes ≡ Ok (final, rest) → EachClean Q reader k bytes
    → EachFits P final i k × (array_bytes element final i k at ++ rest ≡ bytes)
unfolding array_in array_bytes EachClean
array_back element reader P Q front each i zero so_far final at bytes rest below good place e clean =
    ((λ j le lt. absurd (omega arith)), (ok_pair so_far final bytes rest e).1)
array_back element reader P Q front each i (suc k) so_far final at bytes rest below good place e clean =
    let ((w, mid), one, e') = bind_ok (reader bytes) (λ x. array_in reader (i + 1) k (so_far ++ given i x.0) x.1) (final, rest) e in
    let (fits, same) = each w at bytes mid good place one clean.0 in
    let piece = element w at in
    let good' : AreBytes mid = bytes_after piece mid (subst AreBytes (sym same) good) in
    let place' : front ≡ at + length piece + length mid = omega (arith, place, ap length same, length-append piece mid) in
    let clean' : EachClean Q reader k mid = IfOk-at_ok (λ (x : Value × List ℕ). EachClean Q reader k x.1) one clean.1 in
    let (fits', same') = array_back element reader P Q front each (i + 1) k (so_far ++ given i w) final (at + length piece) mid rest (below_given i w so_far below) good' place' e' clean' in
    let here : find i final ≡ w = found_here i w so_far final below (array_extends reader (i + 1) k (so_far ++ given i w) final mid rest e') in
    let fits_all : EachFits P final i (suc k) = λ j le lt. elim (cases_lt i j) [ inl above ↦ fits' j (omega arith) (omega arith) | inr not_above ↦ (let this : j ≡ i = omega arith in rw (this, here) fits) ] in
    (fits_all, rw here (append_assoc piece (array_bytes element final (i + 1) k (at + length piece)) rest ∙ ap (λ (x : List ℕ). piece ++ x) same' ∙ same))

-- ---- structures

-- a structure, where its fields are those that were read
fields_from : (ps : Fields) (fields : List ℕ) (v : Value) (final : List (ℕ × Value)) (bytes mid rest : List ℕ) → fields ++ mid ≡ bytes
    → (take_exactly (end_gap ps (length bytes - length mid)) mid >>= λ padding. done (group_value final) padding.1) ≡ Ok (v, rest) → AreZeros (take (end_gap ps (length bytes - length mid)) mid)
    → (v ≡ group_value final) × (pad_end ps fields ++ rest ≡ bytes)
fields_from ps fields v final bytes mid rest same e clean =
    let n = end_gap ps (length fields) in
    let size : length bytes - length mid ≡ length fields = omega (arith, ap length same, length-append fields mid) in
    let (le, e') = take_exactly_bind {B = Value × List ℕ} n mid (λ padding. done (group_value final) padding.1) (v, rest) (rw size at e) in
    let (is_v, is_rest) = ok_pair (group_value final) v (drop n mid) rest e' in
    let padding : take n mid ≡ zeros n = (rw size at clean) ∙ ap zeros (length-take-le n mid le) in
    (is_v, rw is_rest (append_assoc fields (zeros n) (drop n mid) ∙ ap (λ (x : List ℕ). fields ++ x) (rw (← padding) (take-append-drop n mid)) ∙ same))

-- what holds of the members that were read holds of the group's
group_from : (F : List (ℕ × Value) → Type 0) (B : List (ℕ × Value) → List ℕ) (v : Value) (final : List (ℕ × Value)) (bytes mid rest : List ℕ) → v ≡ group_value final → rest ≡ mid → F final → B final ++ mid ≡ bytes
    → F (members v) × (B (members v) ++ rest ≡ bytes)
group_from F B v final bytes mid rest is_v is_rest fits same =
    let has : members v ≡ final = ap members is_v ∙ members_group final in
    rw (has, is_rest) (fits, same)

-- ---- values

mutual
  unfolding layout fields_bytes value_in read_fields IsClean AreFieldsClean

  pub value_back : (f : Shape) (c d : CountField → ℕ) (v : Value) (at front : ℕ) (bytes rest : List ℕ) → is_sound f ≡ true → Agree f c d → AreBytes bytes → front ≡ at + length bytes
      → value_in f d front bytes ≡ Ok (v, rest) → IsClean f d front bytes → Fits f c v × (layout f c v at ++ rest ≡ bytes)
  value_back Nothing c d v at front bytes rest sound agree good place e clean = (tt, (ok_pair Absent v bytes rest e).1)
  value_back (UInt bits) c d v at front bytes rest sound agree good place e clean = number_from bits at front v bytes rest sound good place e clean
  value_back (Int bits) c d v at front bytes rest sound agree good place e clean = number_from bits at front v bytes rest sound good place e clean
  value_back (Hex bits) c d v at front bytes rest sound agree good place e clean = number_from bits at front v bytes rest sound good place e clean
  value_back (Str n) c d v at front bytes rest sound agree good place e clean = text_from n v bytes rest good e clean
  value_back Ether c d v at front bytes rest sound agree good place e clean = address_from v bytes rest good e
  value_back (Struct ps) c d v at front bytes rest sound agree good place e clean =
      let ((final, mid), one, e') = bind_ok (read_fields ps ps 0 [] (length bytes) bytes) (λ x. take_exactly (end_gap ps (length bytes - length x.1)) x.1 >>= λ padding. done (group_value x.0) padding.1) (v, rest) e in
      let both = and_parts (has_names ps && has_counts ps 0 ps) (are_sound ps) sound in
      let counts = and_parts (has_names ps) (has_counts ps 0 ps) both.0 in
      let (fits, same) = fields_back ps ps 0 [] final 0 (length bytes) bytes mid both.1 counts.1 tt good (omega arith) one clean.0 in
      let clean' = IfOk-at_ok (λ (x : List (ℕ × Value) × List ℕ). AreZeros (take (end_gap ps (length bytes - length x.1)) x.1)) one clean.1 in
      let (is_v, all) = fields_from ps (fields_bytes ps (count_in ps final) final 0 0) v final bytes mid rest same e' clean' in
      group_from (λ ms. FitFields ps (count_in ps ms) ms 0) (λ ms. pad_end ps (fields_bytes ps (count_in ps ms) ms 0 0)) v final bytes rest rest is_v refl fits all
  value_back (Array n f) c d v at front bytes rest sound agree good place e clean =
      let both = and_parts (not (is_counted f)) (is_sound f) sound in
      let each = λ (w : Value) (at : ℕ) (bytes rest : List ℕ) (good : AreBytes bytes) (place : front ≡ at + length bytes) (e : value_in f d front bytes ≡ Ok (w, rest)) (clean : IsClean f d front bytes). value_back f c d w at front bytes rest both.1 agree good place e clean in
      let ((final, mid), one, e') = bind_ok (array_in (value_in f d front) 0 n [] bytes) (λ x. done (group_value x.0) x.1) (v, rest) e in
      let (is_v, is_rest) = ok_pair (group_value final) v mid rest e' in
      let row = array_back (layout f c) (value_in f d front) (Fits f c) (IsClean f d front) front each 0 n [] final at bytes mid tt good place one clean in
      group_from (λ ms. EachFits (Fits f c) ms 0 n) (λ ms. array_bytes (layout f c) ms 0 n at) v final bytes mid rest is_v is_rest row.0 row.1
  value_back (Counted by max f) c d v at front bytes rest sound agree good place e clean =
      let both = and_parts (not (is_counted f)) (is_sound f) sound in
      let each = λ (w : Value) (at : ℕ) (bytes rest : List ℕ) (good : AreBytes bytes) (place : front ≡ at + length bytes) (e : value_in f d front bytes ≡ Ok (w, rest)) (clean : IsClean f d front bytes). value_back f c d w at front bytes rest both.1 agree.1 good place e clean in
      let ((final, mid), one, e') = bind_ok (array_in (value_in f d front) 0 (d by) [] bytes) (λ x. done (group_value x.0) x.1) (v, rest) e in
      let (is_v, is_rest) = ok_pair (group_value final) v mid rest e' in
      let row = array_back (layout f c) (value_in f d front) (Fits f c) (IsClean f d front) front each 0 (d by) [] final at bytes mid tt good place one clean.1 in
      rw agree.0 (group_from (λ ms. (d by ≤ max) × EachFits (Fits f c) ms 0 (d by)) (λ ms. array_bytes (layout f c) ms 0 (d by) at) v final bytes mid rest is_v is_rest (clean.0, row.0) row.1)

  fields_back : (ps whole : Fields) (j : ℕ) (so_far final : List (ℕ × Value)) (at front : ℕ) (bytes rest : List ℕ) → are_sound ps ≡ true → has_counts whole j ps ≡ true → AllBelow j so_far → AreBytes bytes → front ≡ at + length bytes
      → read_fields whole ps j so_far front bytes ≡ Ok (final, rest) → AreFieldsClean whole ps j so_far front bytes
      → FitFields ps (count_in whole final) final j × (fields_bytes ps (count_in whole final) final j at ++ rest ≡ bytes)
  fields_back no_fields whole j so_far final at front bytes rest sound counts below good place e clean = (tt, (ok_pair so_far final bytes rest e).1)
  fields_back (field name f ps) whole j so_far final at front bytes rest sound counts below good place e clean =
      let c = count_in whole final in
      let d = count_in whole so_far in
      let more = fields_extend (field name f ps) whole j so_far final front bytes rest e in
      let ((w, mid), one, e') = bind_ok (value_in f d front bytes) (λ x. read_fields whole ps (j + 1) (so_far ++ given j x.0) front x.1) (final, rest) e in
      let own = and_parts (is_sound f) (are_sound ps) sound in
      let well = and_parts (is_counted_well (first_fields j whole) f) (has_counts whole (j + 1) ps) counts in
      let agree = agree_field f whole j c d own.0 well.0 (λ by early. final_counts by whole j so_far final more early) in
      let (fits, same) = value_back f c d w at front bytes mid own.0 agree good place one clean.0 in
      let piece = layout f c w at in
      let good' : AreBytes mid = bytes_after piece mid (subst AreBytes (sym same) good) in
      let place' : front ≡ at + length piece + length mid = omega (arith, place, ap length same, length-append piece mid) in
      let next = so_far ++ given j w in
      let clean' = IfOk-at_ok (λ (x : Value × List ℕ). AreFieldsClean whole ps (j + 1) (so_far ++ given j x.0) front x.1) one clean.1 in
      let (fits', same') = fields_back ps whole (j + 1) next final (at + length piece) front mid rest own.1 well.1 (below_given j w so_far below) good' place' e' clean' in
      let here : find j final ≡ w = found_here j w so_far final below (fields_extend ps whole (j + 1) next final front mid rest e') in
      ((rw here fits, fits'), rw here (append_assoc piece (fields_bytes ps c final (j + 1) (at + length piece)) rest ∙ ap (λ (x : List ℕ). piece ++ x) same' ∙ same))
