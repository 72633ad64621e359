-- Structures that were printed are read again, and then all values.
use Rattle.std.proofs.Common.{◌≡◌, ◌<◌, ◌≤◌, ◌+◌, ℕ, suc, true, false, eqb, ltb, leb, ◌&&◌, not, List, [], ◌∷◌, ◌++◌, length, Some, None, Ok, refl}
use Rattle.std.proofs.Common.{sym, ap, ◌∙◌, eq-eqb, inl, inr, arith}
use Rattle.std.specs.List.{list_all}
use Rattle.std.specs.Str.{bytes_eq}
use Rattle.std.proofs.lemmas.Bool.{and_parts, le-ltb, ltb-true, ltb-false, eqb-true}
use Rattle.ng_shape.specs.Shape.{Shape, Nothing, UInt, Int, Hex, Str, Ether, Struct, Array, Counted, Fields, no_fields, field, CountField, field_number}
use Rattle.ng_shape.specs.Sound.{is_word_byte, is_word, has_field, has_names}
use Rattle.ng_shape.specs.Values.{Value, Absent, Number, Text, Group, is_absent, number, members, find, count_in}
use Rattle.ng_shape.proofs.Lookups.{bool_cases, not_true}
use Rattle.ng_parse.specs.Tokens.{skip_blanks, word, after_word, starts}
use Rattle.ng_parse.specs.Counts.{count_value, reach, count_fault, first_fault, wrong_count, wrong_count_in, fill_field, fill_counts}
use Rattle.ng_parse.specs.Reading.{has, member_at, known_field, field_at, read_at, read_field}
use Rattle.ng_parse.proofs.Fitting.{or_none, number_count}
use Rattle.ng_parse.proofs.Again.{AreWord, word_of_all, Front, skip_front, word_is, behind_word, front_word}
use Rattle.ng_parse.proofs.Like.{shifted, shifted_more}
use Rattle.ng_parse.proofs.Proper.{Proper, ProperFields}

-- ---- counts

pub count_right : (max n : ℕ) (count v : Value) → number count ≡ n → n ≤ max → reach (members v) ≤ n → count_fault max count v ≡ None
count_right max n count v is le low =
    let a : ltb max (number count) ≡ false = le-ltb max (number count) (omega (arith, is)) in
    let b : ltb (number count) (reach (members v)) ≡ false = le-ltb (number count) (reach (members v)) (omega (arith, is)) in
    rw (a, b) refl

mutual
  unfolding wrong_count wrong_count_in

  pub nil_right : (f : Shape) (c : CountField → ℕ) (cv : CountField → Value) → Proper f c Absent → ((by : CountField) → number (cv by) ≡ c by) → wrong_count f cv Absent ≡ None
  nil_right Nothing c cv proper same = refl
  nil_right (UInt bits) c cv proper same = refl
  nil_right (Int bits) c cv proper same = refl
  nil_right (Hex bits) c cv proper same = refl
  nil_right (Str n) c cv proper same = refl
  nil_right Ether c cv proper same = refl
  nil_right (Struct ps) c cv proper same = nil_fields_right ps (count_in ps []) (count_value ps []) 0 proper.1 (λ by. sym (number_count ps [] by))
  nil_right (Array n f) c cv proper same = refl
  nil_right (Counted by max f) c cv proper same = rw (count_right max (c by) (cv by) Absent (same by) proper.1 (omega arith)) refl

  nil_fields_right : (ps : Fields) (c : CountField → ℕ) (cv : CountField → Value) (i : ℕ) → ProperFields ps c [] i → ((by : CountField) → number (cv by) ≡ c by) → wrong_count_in ps cv [] i ≡ None
  nil_fields_right no_fields c cv i proper same = refl
  nil_fields_right (field name f ps) c cv i proper same = rw (nil_right f c cv proper.0 same, nil_fields_right ps c cv (i + 1) proper.1 same) refl

-- a right count is not filled in
not_filled : (count : Value) (n max : ℕ) → n ≤ number count → (is_absent count && ltb 0 n && leb n max) ≡ false
not_filled Absent n max le = let none : n ≡ 0 = omega arith in rw none refl
not_filled (Number left m) n max le = refl
not_filled (Text bs) n max le = refl
not_filled (Group left ms) n max le = refl

low_count : (max : ℕ) (count v : Value) → count_fault max count v ≡ None → reach (members v) ≤ number count
low_count max count v e =
    elim (bool_cases (ltb max (number count))) [
      | inl high ↦ let wrong = rw high at e in cc
      | inr low ↦ elim (bool_cases (ltb (number count) (reach (members v)))) [
        | inl high ↦ let wrong = rw (low, high) at e in cc
        | inr fine ↦ ltb-false (number count) (reach (members v)) fine
      ]
    ]

field_unfilled : (whole : Fields) (f : Shape) (i : ℕ) (ms : List (ℕ × Value)) → wrong_count f (count_value whole ms) (find i ms) ≡ None → fill_field whole f i ms ≡ ms
unfolding wrong_count
field_unfilled whole Nothing i ms e = refl
field_unfilled whole (UInt bits) i ms e = refl
field_unfilled whole (Int bits) i ms e = refl
field_unfilled whole (Hex bits) i ms e = refl
field_unfilled whole (Str n) i ms e = refl
field_unfilled whole Ether i ms e = refl
field_unfilled whole (Struct ps) i ms e = refl
field_unfilled whole (Array n f) i ms e = refl
field_unfilled whole (Counted by max f) i ms e =
    let count = count_value whole ms by in
    let right = or_none (count_fault max count (find i ms)) (first_fault (wrong_count f (count_value whole ms)) (members (find i ms))) e in
    rw (not_filled count (reach (members (find i ms))) max (low_count max count (find i ms) right.0)) refl

pub unfilled : (ps whole : Fields) (i : ℕ) (ms : List (ℕ × Value)) → wrong_count_in ps (count_value whole ms) ms i ≡ None → fill_counts whole ps i ms ≡ ms
unfolding wrong_count wrong_count_in
unfilled no_fields whole i ms e = refl
unfilled (field name f ps) whole i ms e =
    let right = or_none (wrong_count f (count_value whole ms) (find i ms)) (wrong_count_in ps (count_value whole ms) ms (i + 1)) e in
    rw (field_unfilled whole f i ms right.0) (unfilled ps whole (i + 1) ms right.1)

-- ---- names

-- each of the fields from number i on has a name, which finds it in the whole
abbrev pub AreNamed : Fields → Fields → ℕ → Type 0
AreNamed whole no_fields i = Unit {0}
AreNamed whole (field name f ps) i = (0 < length name) × AreWord name × (field_number whole name ≡ Some i) × AreNamed whole ps (i + 1)

same_bytes : (xs : List ℕ) → bytes_eq xs xs ≡ true
same_bytes [] = refl
same_bytes (x ∷ xs) = let here : eqb x x ≡ true = eq-eqb x x refl in rw (here, same_bytes xs) refl

bytes_same : (xs ys : List ℕ) → bytes_eq xs ys ≡ true → xs ≡ ys
bytes_same [] [] e = refl
bytes_same [] (y ∷ ys) e = cc
bytes_same (x ∷ xs) [] e = cc
bytes_same (x ∷ xs) (y ∷ ys) e =
    let both = and_parts (eqb x y) (bytes_eq xs ys) e in
    let here : x ≡ y = eqb-true x y both.0 in
    rw (here, bytes_same xs ys both.1) refl

pub named : (ps whole : Fields) (i : ℕ) → has_names ps ≡ true → ((name : List ℕ) → has_field name ps ≡ true → field_number whole name ≡ shifted i (field_number ps name)) → AreNamed whole ps i
named no_fields whole i names finds = tt
named (field name f ps) whole i names finds =
    let both = and_parts (is_word name && not (has_field name ps)) (has_names ps) names in
    let first = and_parts (is_word name) (not (has_field name ps)) both.0 in
    let a_word = and_parts (ltb 0 (length name)) (list_all is_word_byte name) first.0 in
    let once : has_field name ps ≡ false = not_true (has_field name ps) first.1 in
    let self = same_bytes name in
    let here : field_number whole name ≡ Some i = finds name (rw self refl) ∙ rw self (let same : 0 + i ≡ i = omega arith in ap (λ (n : ℕ). Some n) same) in (
      ltb-true 0 (length name) a_word.0,
      word_of_all name a_word.1,
      here,
      named ps whole (i + 1) both.1 (λ other found.
          elim (bool_cases (bytes_eq name other)) [
            | inl hit ↦ let same : name ≡ other = bytes_same name other hit in let wrong = rw (← same) at found in let clash : true ≡ false = sym wrong ∙ once in cc
            | inr miss ↦ finds other (rw (miss, found) refl) ∙ rw miss (shifted_more i (field_number ps other))
          ]),
    )

-- the readers of the fields from number i on
abbrev pub AreReaders : Fields → Fields → ℕ → Type 0
AreReaders whole no_fields i = Unit {0}
AreReaders whole (field name f ps) i = (read_field whole i ≡ read_at f) × AreReaders whole ps (i + 1)

pub readers : (ps whole : Fields) (i : ℕ) → ((j : ℕ) → read_field whole (i + j) ≡ read_field ps j) → AreReaders whole ps i
unfolding read_at read_field
readers no_fields whole i each = tt
readers (field name f ps) whole i each = (
  ap (read_field whole) (omega arith) ∙ each 0,
  readers ps whole (i + 1) (λ j. let k : i + 1 + j ≡ i + suc j = omega arith in ap (read_field whole) k ∙ each (suc j)),
)

-- ---- one field

known_field_some : (text w : List ℕ) (i : ℕ) → 0 < length w → known_field text w (Some i) ≡ Ok i
known_field_some text [] i some = absurd (omega arith)
known_field_some text (c ∷ cs) i some = refl

no_brace : (text : List ℕ) → Front text → starts 125 text ≡ false
no_brace [] front = absurd front
no_brace (b ∷ bs) front = front.3

pub field_reads : (ps : Fields) (f : Shape) (i : ℕ) (name : List ℕ) (given : List (ℕ × Value)) (t rest : List ℕ) (v : Value) → 0 < length name → AreWord name → field_number ps name ≡ Some i → read_field ps i ≡ read_at f → has i given ≡ false → skip_blanks t ≡ t → read_at f t ≡ Ok (v, rest)
    → member_at 125 (field_at (field_number ps) (read_field ps)) given (32 ∷ name ++ 61 ∷ t) ≡ Ok (Some (i, v), rest)
unfolding field_at
field_reads ps f i name given t rest v some all found reader new same read =
    let text = name ++ 61 ∷ t in
    let front : Front text = front_word name (61 ∷ t) some all in
    let is : word text ≡ name = word_is name (61 ∷ t) all refl in
    let behind : after_word text ≡ 61 ∷ t = behind_word name (61 ∷ t) all refl in
    let number_is : known_field text (word text) (field_number ps (word text)) ≡ Ok i = rw (is, found) (known_field_some text name i some) in
    let item : field_at (field_number ps) (read_field ps) given text ≡ Ok ((i, v), rest) = rw (number_is, new, behind, reader, same, read) refl in
    rw (skip_front text front, no_brace text front, item) refl
