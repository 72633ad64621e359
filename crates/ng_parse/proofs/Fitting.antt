-- What a text says fits its shape, so that its bytes are canonical.
use Rattle.std.proofs.Common.{◌≡◌, ◌<◌, ◌≤◌, ◌+◌, ◌^◌, ℕ, zero, suc, true, false, cond, eqb, ltb, leb, ◌&&◌, not, List, [], ◌∷◌, length, get_or}
use Rattle.std.proofs.Common.{Option, Some, None, Result, Ok, Err, refl, sym, ap, ◌∙◌, subst, inl, inr, arith}
use Rattle.std.specs.Prelude.{IfOk}
use Rattle.std.proofs.lemmas.Bool.{and_parts, cond_both, ltb-false, leb-true, eqb-true}
use Rattle.ng_shape.specs.Shape.{Shape, Nothing, UInt, Int, Hex, Str, Ether, Struct, Array, Counted, Fields, no_fields, field, CountField, Own}
use Rattle.ng_shape.specs.Shape.{Inside, field_number, shape_named, fields_inside}
use Rattle.ng_shape.specs.Sound.{IsShape, has_width, is_sound, are_sound, has_names, has_counts, is_counted, depth}
use Rattle.ng_shape.specs.Values.{Value, Absent, Group, number, members, find, find_if, count_in, pack}
use Rattle.ng_shape.specs.Layout.{bytes_of, counts_nothing}
use Rattle.ng_shape.specs.Canonical.{AreBytes, Fits, FitFields, IsCanonical}
use Rattle.ng_shape.proofs.Lookups.{bool_cases, shape_at, not_true}
use Rattle.ng_parse.specs.declared.fault.TextFault.{TextFault}
use Rattle.ng_parse.specs.declared.fault.Fault.{Fault}
use Rattle.ng_parse.specs.Faults.{fails, with_place}
use Rattle.ng_parse.specs.Tokens.{skip_blanks}
use Rattle.ng_parse.specs.Counts.{count_value, or_else, count_fault, first_fault, wrong_count, wrong_count_in, fill_counts}
use Rattle.ng_parse.specs.Reading.{limit, unsigned_at, signed_at, group, between, field_at, read_at, read_field, read_all}
use Rattle.ng_parse.specs.Texts.{unless, no_count, value_of_text, bytes_of_text, FormsAreCanonical}
use Rattle.ng_shape.proofs.Whole.{fitting_canonical}
use Rattle.ng_parse.proofs.Kept.{Each, Kept, KeptAt, Keeps, bind_if, skip_good, limit_is, limit_some, unsigned_if, signed_if, string_if, address_if}
use Rattle.ng_parse.proofs.Kept.{between_if, field_if, array_if}
use Rattle.ng_parse.proofs.Filled.{shape_kept, filled_kept}
use Rattle.ng_shape.proofs.Views.{unpack_pack}
use Rattle.ng_parse.specs.Tokens.{number_in, signed_in, word}
use Rattle.ng_parse.specs.declared.fault.Why.TheVariants.{Unexpected}

-- ---- reading

structure_if : (ps : Fields) → has_counts ps 0 ps ≡ true → ((i : ℕ) → Keeps (KeptAt ps i) (read_field ps i)) → Keeps (Kept (Struct ps)) (λ text. group text (fill_counts ps ps 0) (between 123 125 (field_at (field_number ps) (read_field ps)) text))
structure_if ps counted each text good =
    let I = Each (KeptAt ps) in
    bind_if (between 123 125 (field_at (field_number ps) (read_field ps)) text) (λ x. Ok (Group (length text) (pack (fill_counts ps ps 0 x.0)), x.1)) (λ x. I x.0 × AreBytes x.1) (λ x. I (members x.0) × AreBytes x.1)
    (between_if 123 125 (field_at (field_number ps) (read_field ps)) I tt (field_if (field_number ps) (read_field ps) (KeptAt ps) each) text good)
    (λ x h. (subst I (sym (unpack_pack (fill_counts ps ps 0 x.0))) (filled_kept ps ps 0 x.0 counted h.0), h.1))

unsigned_keeps : (bits : ℕ) → has_width bits ≡ true → (text : List ℕ) → AreBytes text → IfOk (unsigned_at bits text) (λ x. (number x.0 < 2 ^ bits) × AreBytes x.1)
unsigned_keeps bits wide text good = subst (λ (most : ℕ). IfOk (unsigned_at bits text) (λ x. (number x.0 < most) × AreBytes x.1)) (limit_is bits wide) (unsigned_if (limit bits) text (number_in (word text)) good)

signed_keeps : (bits : ℕ) → has_width bits ≡ true → (text : List ℕ) → AreBytes text → IfOk (signed_at bits text) (λ x. (number x.0 < 2 ^ bits) × AreBytes x.1)
signed_keeps bits wide text good = subst (λ (most : ℕ). IfOk (signed_at bits text) (λ x. (number x.0 < most) × AreBytes x.1)) (limit_is bits wide) (signed_if (limit bits) text (signed_in (word text)) (limit_some bits) good)

mutual
  unfolding read_at read_field

  reads_kept : (f : Shape) → is_sound f ≡ true → (text : List ℕ) → AreBytes text → IfOk (read_at f text) (λ x. Kept f x.0 × AreBytes x.1)
  reads_kept Nothing sound text good = (tt, good)
  reads_kept (UInt bits) sound text good = unsigned_keeps bits sound text good
  reads_kept (Int bits) sound text good = signed_keeps bits sound text good
  reads_kept (Hex bits) sound text good = unsigned_keeps bits sound text good
  reads_kept (Str n) sound text good = string_if n text (leb-true 1 n (and_parts (leb 1 n) (leb n (2 ^ 31)) sound).0) good
  reads_kept Ether sound text good = address_if text good
  reads_kept (Struct ps) sound text good =
      let both = and_parts (has_names ps && has_counts ps 0 ps) (are_sound ps) sound in
      structure_if ps (and_parts (has_names ps) (has_counts ps 0 ps) both.0).1 (fields_kept ps both.1) text good
  reads_kept (Array n f) sound text good = array_if n (read_at f) (Kept f) (reads_kept f (and_parts (not (is_counted f)) (is_sound f) sound).1) text good
  reads_kept (Counted by max f) sound text good = array_if max (read_at f) (Kept f) (reads_kept f (and_parts (not (is_counted f)) (is_sound f) sound).1) text good

  fields_kept : (ps : Fields) → are_sound ps ≡ true → (i : ℕ) (text : List ℕ) → AreBytes text → IfOk (read_field ps i text) (λ x. KeptAt ps i x.0 × AreBytes x.1)
  fields_kept no_fields sound i text good = (tt, good)
  fields_kept (field name f ps) sound zero text good = reads_kept f (and_parts (is_sound f) (are_sound ps) sound).0 text good
  fields_kept (field name f ps) sound (suc i) text good = fields_kept ps (and_parts (is_sound f) (are_sound ps) sound).1 i text good

all_kept : (f : Shape) (text : List ℕ) → is_sound f ≡ true → AreBytes text → IfOk (read_all f text) (Kept f)
unfolding read_all
all_kept f text sound good =
    bind_if (read_at f (skip_blanks text)) (λ x. cond (eqb (length (skip_blanks x.1)) 0) (Ok x.0) (fails Unexpected (skip_blanks x.1))) (λ x. Kept f x.0 × AreBytes x.1) (Kept f) (reads_kept f sound (skip_blanks text) (skip_good text good))
    (λ x h. cond_both (eqb (length (skip_blanks x.1)) 0) (Ok x.0) (fails Unexpected (skip_blanks x.1)) (λ r. IfOk r (Kept f)) (λ e. h.0) (λ e. tt))

-- ---- what was not given

wide_some : (bits : ℕ) → has_width bits ≡ true → 0 < 2 ^ bits
wide_some bits wide = subst (λ (n : ℕ). 0 < n) (limit_is bits wide) (limit_some bits)

kept_nil : (f : Shape) → is_sound f ≡ true → Kept f Absent
kept_nil Nothing sound = tt
kept_nil (UInt bits) sound = wide_some bits sound
kept_nil (Int bits) sound = wide_some bits sound
kept_nil (Hex bits) sound = wide_some bits sound
kept_nil (Str n) sound = (tt, leb-true 1 n (and_parts (leb 1 n) (leb n (2 ^ 31)) sound).0)
kept_nil Ether sound = (tt, omega arith)
kept_nil (Struct ps) sound = tt
kept_nil (Array n f) sound = tt
kept_nil (Counted by max f) sound = tt

find_if_nil : (o : Option ℕ) → find_if o [] ≡ Absent
find_if_nil None = refl
find_if_nil (Some i) = refl

count_nil : (whole : Fields) (by : CountField) → count_in whole [] by ≡ 0
count_nil whole (Own name) = ap number (find_if_nil (field_number whole name))
count_nil whole (Inside name inner) =
    let none = find_if_nil (field_number whole name) in
    rw none (ap number (find_if_nil (field_number (fields_inside (shape_named whole name)) inner)))

mutual
  nil_fits : (f : Shape) (c : CountField → ℕ) → is_sound f ≡ true → is_counted f ≡ false → Fits f c Absent
  nil_fits Nothing c sound free = tt
  nil_fits (UInt bits) c sound free = wide_some bits sound
  nil_fits (Int bits) c sound free = wide_some bits sound
  nil_fits (Hex bits) c sound free = wide_some bits sound
  nil_fits (Str n) c sound free = (tt, leb-true 1 n (and_parts (leb 1 n) (leb n (2 ^ 31)) sound).0)
  nil_fits Ether c sound free = (tt, omega arith)
  nil_fits (Struct ps) c sound free = nil_fields_fit ps ps 0 (and_parts (has_names ps && has_counts ps 0 ps) (are_sound ps) sound).1
  nil_fits (Array n f) c sound free = let both = and_parts (not (is_counted f)) (is_sound f) sound in λ j le lt. nil_fits f c both.1 (not_true (is_counted f) both.0)
  nil_fits (Counted by max f) c sound free = cc

  nil_fields_fit : (ps whole : Fields) (j : ℕ) → are_sound ps ≡ true → FitFields ps (count_in whole []) [] j
  nil_fields_fit no_fields whole j sound = tt
  nil_fields_fit (field name (Counted by max f) ps) whole j sound =
      let none = count_nil whole by in
      ((omega (arith, none), λ i le lt. absurd (omega (arith, none))), nil_fields_fit ps whole (j + 1) (and_parts (is_sound (Counted by max f)) (are_sound ps) sound).1)
  nil_fields_fit (field name f ps) whole j sound =
      let both = and_parts (is_sound f) (are_sound ps) sound in
      (nil_fits f (count_in whole []) both.0 refl, nil_fields_fit ps whole (j + 1) both.1)

-- ---- counts

pub or_none : (a b : Option Fault) → or_else a b ≡ None → (a ≡ None) × (b ≡ None)
or_none None b e = (refl, e)
or_none (Some fault) b e = cc

count_low : (max : ℕ) (count v : Value) → count_fault max count v ≡ None → number count ≤ max
count_low max count v e =
    elim (bool_cases (ltb max (number count))) [
      | inl high ↦ let wrong = rw high at e in cc
      | inr low ↦ ltb-false max (number count) low
    ]

found_if : (P Q : Value → Type 0) (p : Value → Option Fault) → ((v : Value) → P v → p v ≡ None → Q v) → Q Absent → (ms : List (ℕ × Value)) (j : ℕ) → Each (λ i. P) ms → first_fault p ms ≡ None → Q (find j ms)
found_if P Q p each none [] j all e = none
found_if P Q p each none (m ∷ ms) j all e =
    let both = or_none (p m.1) (first_fault p ms) e in
    cond_both (eqb m.0 j) m.1 (find j ms) Q (λ hit. each m.1 all.0 both.0) (λ miss. found_if P Q p each none ms j all.1 both.1)

field_kept : (whole : Fields) (f : Shape) (i : ℕ) (ms : List (ℕ × Value)) → is_sound f ≡ true → shape_at whole i ≡ Some f → Each (KeptAt whole) ms → Kept f (find i ms)
field_kept whole f i [] sound e all = kept_nil f sound
field_kept whole f i (m ∷ ms) sound e all =
    cond_both (eqb m.0 i) m.1 (find i ms) (Kept f)
    (λ hit. let is : m.0 ≡ i = eqb-true m.0 i hit in shape_kept whole i f m.1 e (subst (λ (k : ℕ). KeptAt whole k m.1) is all.0))
    (λ miss. field_kept whole f i ms sound e all.1)

pub number_count : (ps : Fields) (ms : List (ℕ × Value)) (by : CountField) → count_in ps ms by ≡ number (count_value ps ms by)
number_count ps ms (Own name) = refl
number_count ps ms (Inside name inner) = refl

mutual
  unfolding wrong_count wrong_count_in

  fits : (f : Shape) (cv : CountField → Value) (c : CountField → ℕ) (v : Value) → is_sound f ≡ true → ((by : CountField) → c by ≡ number (cv by)) → Kept f v → wrong_count f cv v ≡ None → Fits f c v
  fits Nothing cv c v sound same kept e = tt
  fits (UInt bits) cv c v sound same kept e = kept
  fits (Int bits) cv c v sound same kept e = kept
  fits (Hex bits) cv c v sound same kept e = kept
  fits (Str n) cv c v sound same kept e = kept
  fits Ether cv c v sound same kept e = kept
  fits (Struct ps) cv c v sound same kept e = fields_fit ps ps (members v) 0 (and_parts (has_names ps && has_counts ps 0 ps) (are_sound ps) sound).1 (λ k. ap (shape_at ps) (omega arith)) kept e
  fits (Array n f) cv c v sound same kept e =
      let both = and_parts (not (is_counted f)) (is_sound f) sound in
      λ j le lt. found_if (Kept f) (Fits f c) (wrong_count f cv) (λ w kept e. fits f cv c w both.1 same kept e) (nil_fits f c both.1 (not_true (is_counted f) both.0)) (members v) j kept e
  fits (Counted by max f) cv c v sound same kept e =
      let both = and_parts (not (is_counted f)) (is_sound f) sound in
      let none = or_none (count_fault max (cv by) v) (first_fault (wrong_count f cv) (members v)) e in (
        omega (arith, same by, count_low max (cv by) v none.0),
        λ j le lt. found_if (Kept f) (Fits f c) (wrong_count f cv) (λ w kept e. fits f cv c w both.1 same kept e) (nil_fits f c both.1 (not_true (is_counted f) both.0)) (members v) j kept none.1,
      )

  fields_fit : (ps whole : Fields) (ms : List (ℕ × Value)) (i : ℕ) → are_sound ps ≡ true → ((k : ℕ) → shape_at whole (i + k) ≡ shape_at ps k) → Each (KeptAt whole) ms → wrong_count_in ps (count_value whole ms) ms i ≡ None → FitFields ps (count_in whole ms) ms i
  fields_fit no_fields whole ms i sound forms all e = tt
  fields_fit (field name f ps) whole ms i sound forms all e =
      let both = and_parts (is_sound f) (are_sound ps) sound in
      let none = or_none (wrong_count f (count_value whole ms) (find i ms)) (wrong_count_in ps (count_value whole ms) ms (i + 1)) e in
      let here : shape_at whole i ≡ Some f = ap (shape_at whole) (omega arith) ∙ forms 0 in (
        fits f (count_value whole ms) (count_in whole ms) (find i ms) both.0 (number_count whole ms) (field_kept whole f i ms both.0 here all) none.0,
        fields_fit ps whole ms (i + 1) both.1 (λ k. let next : i + 1 + k ≡ i + suc k = omega arith in ap (shape_at whole) next ∙ forms (suc k)) all none.1,
      )

-- ---- a text

place_if : {A : Type 0} (n : ℕ) (r : Result A Fault) (P : A → Type 0) → IfOk r P → IfOk (with_place n r) P
place_if n (Ok x) P h = h
place_if n (Err fault) P h = tt

unless_if : (o : Option Fault) (v : Value) (P : Value → Type 0) → (o ≡ None → P v) → IfOk (unless o v) P
unless_if None v P h = h refl
unless_if (Some fault) v P h = tt

abbrev Fine : Shape → Value → Type 0
Fine f v = Kept f v × (wrong_count f no_count v ≡ None)

no_counts : (by : CountField) → counts_nothing by ≡ number (no_count by)
no_counts (Own name) = refl
no_counts (Inside name inner) = refl

pub sound_shape : (f : Shape) → IsShape f → is_sound f ≡ true
sound_shape f is = (and_parts (not (is_counted f)) (is_sound f) (and_parts (not (is_counted f) && is_sound f) (leb (depth f) 16) is).0).1

value_fine : (f : Shape) (text : List ℕ) → is_sound f ≡ true → AreBytes text → IfOk (value_of_text f text) (Fine f)
unfolding value_of_text
value_fine f text sound good =
    bind_if (read_all f text) (λ v. unless (wrong_count f no_count v) v) (Kept f) (Fine f) (all_kept f text sound good) (λ v kept. unless_if (wrong_count f no_count v) v (Fine f) (λ none. (kept, none)))

pub text_canonical : (f : Shape) (text : List ℕ) → IsShape f → AreBytes text → IfOk (bytes_of_text f text) (IsCanonical f)
unfolding bytes_of_text
text_canonical f text is good =
    let sound = sound_shape f is in
    bind_if (with_place (length text) (value_of_text f text)) (λ v. Ok (bytes_of f v)) (Fine f) (IsCanonical f) (place_if (length text) (value_of_text f text) (Fine f) (value_fine f text sound good))
    (λ v fine. fitting_canonical f v is (fits f no_count counts_nothing v sound no_counts fine.0 fine.1))

pub form_canonical : FormsAreCanonical
form_canonical f text bytes is good form = let h : IfOk (bytes_of_text f text) (IsCanonical f) = text_canonical f text is good in subst (λ (r : Result (List ℕ) TextFault). IfOk r (IsCanonical f)) form h

pub value_canonical : (f : Shape) (text : List ℕ) (v : Value) → IsShape f → AreBytes text → value_of_text f text ≡ Ok v → IsCanonical f (bytes_of f v)
value_canonical f text v is good e =
    let sound = sound_shape f is in
    let fine : Fine f v = subst (λ (r : Result Value Fault). IfOk r (Fine f)) e (value_fine f text sound good) in
    fitting_canonical f v is (fits f no_count counts_nothing v sound no_counts fine.0 fine.1)

pub bytes_are : (text : List ℕ) → ((k : ℕ) → k < length text → get_or text k 0 < 256) → AreBytes text
bytes_are [] each = tt
bytes_are (c ∷ cs) each = (each 0 (omega arith), bytes_are cs (λ k lt. each (suc k) (omega arith)))
