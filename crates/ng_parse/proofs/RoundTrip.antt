-- The text of canonical bytes is a form of exactly these bytes.
use Rattle.std.proofs.Common.{◌≡◌, ◌<◌, ◌≤◌, ◌+◌, ◌-◌, ℕ, zero, suc, Bool, true, false, cond, ◌&&◌, not, ◌⊎◌, List, [], ◌∷◌, ◌++◌, length, Some}
use Rattle.std.proofs.Common.{None, Ok, refl, sym, ap, ◌∙◌, subst, append_assoc, inl, inr, arith, length-append}
use Rattle.std.specs.Fmt.{decimal}
use Rattle.std.proofs.lemmas.Bool.{and_parts}
use Rattle.std.proofs.lemmas.List.{append-nil}
use Rattle.ng_shape.specs.Shape.{Shape, Nothing, UInt, Int, Hex, Str, Ether, Struct, Array, Counted, Fields, no_fields, field, CountField, Own}
use Rattle.ng_shape.specs.Shape.{Inside, field_number}
use Rattle.ng_shape.specs.Sound.{has_names, has_counts, is_sound, are_sound, is_counted}
use Rattle.ng_shape.specs.Values.{Value, Absent, Number, Text, Group, is_absent, number, chars, members, find, count_in, pack, unpack}
use Rattle.ng_shape.specs.Layout.{bytes_of, counts_nothing}
use Rattle.ng_shape.proofs.Views.{unpack_pack}
use Rattle.ng_shape.proofs.Whole.{canonical_layout}
use Rattle.ng_parse.specs.Tokens.{skip_blanks}
use Rattle.ng_parse.specs.Counts.{count_value, reach, wrong_count, wrong_count_in, fill_counts}
use Rattle.ng_parse.specs.Reading.{repeat, has, member_at, field_at, between, group, has_index, read_at, read_field, read_all}
use Rattle.ng_parse.specs.Printing.{print, print_fields, print_array, print_hex, print_signed, print_address, address_bytes}
use Rattle.ng_parse.specs.Texts.{HasLengths, HaveLengths, no_count, value_of_text, bytes_of_text, text_of_bytes, PrintedIsFormOf}
use Rattle.ng_parse.proofs.Fitting.{number_count, sound_shape}
use Rattle.ng_parse.proofs.Again.{AreWord, Ends, Front, skip_front, front_word, no_index, decimal_says, decimal_word, hex_says, hex_word}
use Rattle.ng_parse.proofs.Again.{unsigned_again, low_64, signed_again, signed_word, string_again, address_word, address_again}
use Rattle.ng_parse.proofs.Like.{shifted_none, LikeFields, like_same, count_like, layout_like}
use Rattle.ng_parse.proofs.Proper.{Proper, ProperFields, proper}
use Rattle.ng_parse.proofs.Arrays.{Again, IsBelow, find_absent, find_pushed, find_pushed_other, below_pushed, Follows, elements_again}
use Rattle.ng_parse.proofs.Fields.{AreNamed, AreReaders, named, readers, field_reads, nil_right, unfilled, count_right}

-- ---- the front of a text

abbrev has_text : Shape → Bool
has_text Nothing = false
has_text _ = true

some_text : (f : Shape) (c : CountField → ℕ) (v : Value) → is_absent v ≡ false → Proper f c v → has_text f ≡ true
some_text Nothing c v some p = let wrong = rw p at some in cc
some_text (UInt bits) c v some p = refl
some_text (Int bits) c v some p = refl
some_text (Hex bits) c v some p = refl
some_text (Str n) c v some p = refl
some_text Ether c v some p = refl
some_text (Struct ps) c v some p = refl
some_text (Array n f) c v some p = refl
some_text (Counted by max f) c v some p = refl

record Texted (text rest : List ℕ) : Type 0 where
  front : Front (text ++ rest)
  plain : Follows rest → has_index (text ++ rest) ≡ false
  some : text ≡ [] → ⊥

word_texted : (w rest : List ℕ) → (0 < length w) × AreWord w → Texted w rest
word_texted w rest all = record {
  front = front_word w rest all.0 all.1;
  plain = λ f. no_index w rest all.1 f.0 f.1;
  some = λ e. omega (arith, ap length e, all.0);
}

texted : (f : Shape) (c : CountField → ℕ) (v : Value) (rest : List ℕ) → has_text f ≡ true → Proper f c v → Texted (print f v) rest
unfolding print
texted Nothing c v rest some p = cc
texted (UInt bits) c v rest some p = word_texted (decimal (number v)) rest (decimal_word (number v) (low_64 bits (number v) p))
texted (Int bits) c v rest some p = word_texted (print_signed bits (number v)) rest (signed_word bits (number v) p)
texted (Hex bits) c v rest some p = word_texted (print_hex (number v)) rest (omega arith, hex_word (number v) (low_64 bits (number v) p))
texted (Str n) c v rest some p = record { front = (refl, refl, refl, refl); plain = λ f. refl; some = λ e. cc }
texted Ether c v rest some p = word_texted (print_address (address_bytes (chars v))) rest (address_word (address_bytes (chars v)) p.1.0 p.1.1)
texted (Struct ps) c v rest some p = record { front = (refl, refl, refl, refl); plain = λ f. refl; some = λ e. cc }
texted (Array n f) c v rest some p = record { front = (refl, refl, refl, refl); plain = λ f. refl; some = λ e. cc }
texted (Counted by max f) c v rest some p = record { front = (refl, refl, refl, refl); plain = λ f. refl; some = λ e. cc }

-- ---- the fields of a structure

abbrev tail_of : Fields → List (ℕ × Value) → ℕ → List ℕ → List ℕ
tail_of ps ms i rest = print_fields ps ms i ++ 32 ∷ 125 ∷ rest

-- fields from number i on, as they were printed after others
record FieldsRead (whole ps : Fields) (c : CountField → ℕ) (ms : List (ℕ × Value)) (i : ℕ) (given : List (ℕ × Value)) (k : ℕ) (rest : List ℕ) : Type 0 where
  given' : List (ℕ × Value)
  read : repeat (member_at 125 (field_at (field_number whole) (read_field whole))) k given (tail_of ps ms i rest) ≡ Ok (given', rest)
  like : LikeFields ps ms given' i
  keeps : (j : ℕ) → j < i → find j given' ≡ find j given
  right : (cv : CountField → Value) → ((by : CountField) → number (cv by) ≡ c by) → wrong_count_in ps cv given' i ≡ None

fields_end : (whole : Fields) (c : CountField → ℕ) (ms : List (ℕ × Value)) (i : ℕ) (given : List (ℕ × Value)) (k : ℕ) (rest : List ℕ) → length (tail_of no_fields ms i rest) ≤ k → FieldsRead whole no_fields c ms i given k rest
unfolding print_fields repeat wrong_count_in
fields_end whole c ms i given zero rest le = absurd (omega arith)
fields_end whole c ms i given (suc k) rest le = record { given' = given; read = refl; like = tt; keeps = λ j lt. refl; right = λ cv same. refl }

nil_cases : (v : Value) → (v ≡ Absent) ⊎ (is_absent v ≡ false)
nil_cases Absent = inl refl
nil_cases (Number left n) = inr refl
nil_cases (Text bs) = inr refl
nil_cases (Group left ms) = inr refl

-- a field that was not printed
fields_nil : (whole ps : Fields) (name : List ℕ) (f : Shape) (c : CountField → ℕ) (ms : List (ℕ × Value)) (i : ℕ) (given : List (ℕ × Value)) (k : ℕ) (rest : List ℕ) → find i ms ≡ Absent → Proper f c (find i ms) → has i given ≡ false
    → FieldsRead whole ps c ms (i + 1) given k rest → FieldsRead whole (field name f ps) c ms i given k rest
unfolding print_fields wrong_count_in
fields_nil whole ps name f c ms i given k rest nil p new m =
    let here : find i m.given' ≡ Absent = m.keeps i (omega arith) ∙ find_absent i given new in
    let p' : Proper f c Absent = subst (Proper f c) nil p in
    record {
      given' = m.given';
      read = rw nil m.read;
      like = (rw (nil, here) (like_same f Absent), m.like);
      keeps = λ j lt. m.keeps j (omega arith);
      right = λ cv same. rw (here, nil_right f c cv p' same) (m.right cv same);
    }

regrouped : (name s p tail : List ℕ) → (((32 ∷ name) ++ 61 ∷ s) ++ p) ++ tail ≡ (32 ∷ name) ++ 61 ∷ (s ++ (p ++ tail))
regrouped name s p tail = simp append_assoc

shorter : (whole_text name s t : List ℕ) (k : ℕ) → whole_text ≡ (32 ∷ name) ++ 61 ∷ (s ++ t) → length whole_text ≤ k → (suc (k - 1) ≡ k) × (length t ≤ k - 1)
shorter whole_text name s t k e le =
    let long = ap length e in
    let a = length-append (32 ∷ name) (61 ∷ (s ++ t)) in
    let b = length-append s t in
    (omega (arith, long, a, b), omega (arith, long, a, b))

field_split : (ps : Fields) (name : List ℕ) (f : Shape) (ms : List (ℕ × Value)) (i : ℕ) (rest : List ℕ) → is_absent (find i ms) ≡ false → tail_of (field name f ps) ms i rest ≡ (32 ∷ name) ++ 61 ∷ (print f (find i ms) ++ tail_of ps ms (i + 1) rest)
unfolding print_fields
field_split ps name f ms i rest some = rw some (regrouped name (print f (find i ms)) (print_fields ps ms (i + 1)) (32 ∷ 125 ∷ rest))

-- a field that was printed
fields_some : (whole ps : Fields) (name : List ℕ) (f : Shape) (c : CountField → ℕ) (ms : List (ℕ × Value)) (i : ℕ) (given : List (ℕ × Value)) (k : ℕ) (rest : List ℕ) → is_absent (find i ms) ≡ false → has i given ≡ false → 0 < length name → AreWord name → field_number whole name ≡ Some i → read_field whole i ≡ read_at f
    → Front (print f (find i ms) ++ tail_of ps ms (i + 1) rest) → (a : Again f c (find i ms) (tail_of ps ms (i + 1) rest))
    → FieldsRead whole ps c ms (i + 1) (given ++ (i, a.value) ∷ []) k rest → FieldsRead whole (field name f ps) c ms i given (suc k) rest
unfolding repeat wrong_count_in
fields_some whole ps name f c ms i given k rest some new long all found reader front a m =
    let t = tail_of ps ms (i + 1) rest in
    let text = print f (find i ms) ++ t in
    let step = member_at 125 (field_at (field_number whole) (read_field whole)) in
    let one : step given (32 ∷ name ++ 61 ∷ text) ≡ Ok (Some (i, a.value), t) = field_reads whole f i name given text t a.value long all found reader new (skip_front text front) a.read in
    let here : find i m.given' ≡ a.value = m.keeps i (omega arith) ∙ find_pushed i a.value given new in
    record {
      given' = m.given';
      read = ap (repeat step (suc k) given) (field_split ps name f ms i rest some) ∙ rw one m.read;
      like = (rw here a.like, m.like);
      keeps = λ j lt. m.keeps j (omega arith) ∙ find_pushed_other j i a.value given (λ e. omega (arith, e));
      right = λ cv same. rw (here, a.right cv same) (m.right cv same);
    }

ends_field : (t : Bool) (x more tail : List ℕ) → Ends (more ++ tail) → Ends ((cond t [] (32 ∷ x) ++ more) ++ tail)
ends_field true x more tail e = e
ends_field false x more tail e = refl

ends_fields : (ps : Fields) (ms : List (ℕ × Value)) (i : ℕ) (rest : List ℕ) → Ends (tail_of ps ms i rest)
unfolding print_fields
ends_fields no_fields ms i rest = refl
ends_fields (field name f ps) ms i rest = ends_field (is_absent (find i ms)) (name ++ 61 ∷ print f (find i ms)) (print_fields ps ms (i + 1)) (32 ∷ 125 ∷ rest) (ends_fields ps ms (i + 1) rest)

nil_le : (ps : Fields) (name : List ℕ) (f : Shape) (ms : List (ℕ × Value)) (i k : ℕ) (rest : List ℕ) → find i ms ≡ Absent → length (tail_of (field name f ps) ms i rest) ≤ k → length (tail_of ps ms (i + 1) rest) ≤ k
unfolding print_fields
nil_le ps name f ms i k rest nil le = rw nil at le

structure_again : (ps : Fields) (c : CountField → ℕ) (v : Value) (rest : List ℕ) → number v ≡ 0 → FieldsRead ps ps (count_in ps (members v)) (members v) 0 [] (length (tail_of ps (members v) 0 rest)) rest → Again (Struct ps) c v rest
unfolding read_at read_field print print_fields between wrong_count wrong_count_in
structure_again ps c v rest none m =
    let text = tail_of ps (members v) 0 rest in
    let item = field_at (field_number ps) (read_field ps) in
    let grouped : print (Struct ps) v ++ rest ≡ 123 ∷ text = ap (λ (x : List ℕ). 123 ∷ x) (append_assoc (print_fields ps (members v) 0) (32 ∷ 125 ∷ []) rest) in
    let counts = λ (by : CountField). sym (number_count ps m.given' by) ∙ sym (count_like ps (members v) m.given' m.like by) in
    let right : wrong_count_in ps (count_value ps m.given') m.given' 0 ≡ None = m.right (count_value ps m.given') counts in
    let same : fill_counts ps ps 0 m.given' ≡ m.given' = unfilled ps ps 0 m.given' right in
    record {
      value = Group (length (123 ∷ text)) (pack m.given');
      read = ap (λ (t : List ℕ). group t (fill_counts ps ps 0) (between 123 125 item t)) grouped ∙ rw (m.read, same) refl;
      like = (none, subst (λ (ks : List (ℕ × Value)). LikeFields ps (members v) ks 0) (sym (unpack_pack m.given')) m.like);
      right = λ cv is. rw (unpack_pack m.given') right;
    }

-- ---- all values

mutual
  unfolding read_at read_field print print_fields wrong_count wrong_count_in

  again : (f : Shape) (c : CountField → ℕ) (v : Value) (rest : List ℕ) → is_sound f ≡ true → HasLengths f → Proper f c v → Ends rest → Again f c v rest
  again Nothing c v rest sound long p e = record { value = Absent; read = refl; like = ap number p; right = λ cv same. refl }
  again (UInt bits) c v rest sound long p e =
      let low = low_64 bits (number v) p in
      record {
        value = Number (length (decimal (number v) ++ rest)) (number v);
        read = unsigned_again bits (number v) (decimal (number v)) rest (decimal_word (number v) low).1 e (decimal_says (number v) low) p;
        like = refl;
        right = λ cv same. refl;
      }
  again (Int bits) c v rest sound long p e = record {
    value = Number (length (print_signed bits (number v) ++ rest)) (number v);
    read = signed_again bits (number v) rest e p;
    like = refl;
    right = λ cv same. refl;
  }
  again (Hex bits) c v rest sound long p e =
      let low = low_64 bits (number v) p in
      record {
        value = Number (length (print_hex (number v) ++ rest)) (number v);
        read = unsigned_again bits (number v) (print_hex (number v)) rest (hex_word (number v) low) e (hex_says (number v) low) p;
        like = refl;
        right = λ cv same. refl;
      }
  again (Str n) c v rest sound long p e = record {
    value = Text (chars v);
    read = string_again n (chars v) rest p.1 p.2;
    like = (p.0, refl);
    right = λ cv same. refl;
  }
  again Ether c v rest sound long p e = record {
    value = Text (address_bytes (chars v));
    read = address_again (address_bytes (chars v)) rest p.1.0 p.1.1 e;
    like = (p.0, sym p.1.2);
    right = λ cv same. refl;
  }
  again (Struct ps) c v rest sound long p e =
      let both = and_parts (has_names ps && has_counts ps 0 ps) (are_sound ps) sound in
      let names = and_parts (has_names ps) (has_counts ps 0 ps) both.0 in
      structure_again ps c v rest p.0 (fields ps ps (count_in ps (members v)) (members v) 0 [] (length (tail_of ps (members v) 0 rest)) rest both.1 long (named ps ps 0 names.0 (λ name found. sym (shifted_none (field_number ps name)))) (readers ps ps 0 (λ j. ap (read_field ps) (omega arith))) p.1 (λ j le. refl) (omega arith))
  again (Array n f) c v rest sound long p e =
      let both = and_parts (not (is_counted f)) (is_sound f) sound in
      let es = elements_again f c n n (members v) rest (omega arith) (omega (arith, long.0)) (λ w t some q follows.
      let text = texted f c w t (some_text f c w some q) q in record { again = again f c w t both.1 long.1 q follows.0; front = text.front; plain = text.plain follows; some = text.some }) p.1 in
      record {
        value = Group (length (print_array (print f) (members v) ++ rest)) (pack es.given);
        read = rw es.read refl;
        like = (p.0, λ j. rw (unpack_pack es.given) (es.like j));
        right = λ cv same. rw (unpack_pack es.given) (es.right cv same);
      }
  again (Counted by max f) c v rest sound long p e =
      let both = and_parts (not (is_counted f)) (is_sound f) sound in
      let es = elements_again f c max (c by) (members v) rest p.1 (omega (arith, p.1, long.0)) (λ w t some q follows.
      let text = texted f c w t (some_text f c w some q) q in record { again = again f c w t both.1 long.1 q follows.0; front = text.front; plain = text.plain follows; some = text.some }) p.2 in
      let left = length (print_array (print f) (members v) ++ rest) in
      record {
        value = Group left (pack es.given);
        read = rw es.read refl;
        like = (p.0, λ j. rw (unpack_pack es.given) (es.like j));
        right = λ cv same. let low : reach (unpack (pack es.given)) ≤ c by = rw (unpack_pack es.given) es.low in rw (count_right max (c by) (cv by) (Group left (pack es.given)) (same by) p.1 low, unpack_pack es.given) (es.right cv same);
      }

  fields : (ps whole : Fields) (c : CountField → ℕ) (ms : List (ℕ × Value)) (i : ℕ) (given : List (ℕ × Value)) (k : ℕ) (rest : List ℕ) → are_sound ps ≡ true → HaveLengths ps → AreNamed whole ps i → AreReaders whole ps i → ProperFields ps c ms i → IsBelow i given → length (tail_of ps ms i rest) ≤ k → FieldsRead whole ps c ms i given k rest
  fields no_fields whole c ms i given k rest sound long names reads p none le = fields_end whole c ms i given k rest le
  fields (field name f ps) whole c ms i given k rest sound long names reads p none le =
      let both = and_parts (is_sound f) (are_sound ps) sound in
      let t = tail_of ps ms (i + 1) rest in
      elim (nil_cases (find i ms)) [
        | inl nil ↦ fields_nil whole ps name f c ms i given k rest nil p.0 (none i (omega arith)) (fields ps whole c ms (i + 1) given k rest both.1 long.1 names.3 reads.1 p.1 (λ j lt. none j (omega arith)) (nil_le ps name f ms i k rest nil le))
        | inr some ↦
            let a = again f c (find i ms) t both.0 long.0 p.0 (ends_fields ps ms (i + 1) rest) in
            let front = (texted f c (find i ms) t (some_text f c (find i ms) some p.0) p.0).front in
            let size = shorter (tail_of (field name f ps) ms i rest) name (print f (find i ms)) t k (field_split ps name f ms i rest some) le in
            let more = fields ps whole c ms (i + 1) (given ++ (i, a.value) ∷ []) (k - 1) rest both.1 long.1 names.3 reads.1 p.1 (below_pushed i i a.value given (omega arith) none) size.1 in
            subst (λ (n : ℕ). FieldsRead whole (field name f ps) c ms i given n rest) size.0 (fields_some whole ps name f c ms i given (k - 1) rest some (none i (omega arith)) names.0 names.1 names.2 reads.0 front a more)
      ]

-- ---- all of a text

no_counts : (by : CountField) → number (no_count by) ≡ counts_nothing by
no_counts (Own name) = refl
no_counts (Inside name inner) = refl

front_cases : (f : Shape) → (f ≡ Nothing) ⊎ (has_text f ≡ true)
front_cases Nothing = inl refl
front_cases (UInt bits) = inr refl
front_cases (Int bits) = inr refl
front_cases (Hex bits) = inr refl
front_cases (Str n) = inr refl
front_cases Ether = inr refl
front_cases (Struct ps) = inr refl
front_cases (Array n f) = inr refl
front_cases (Counted by max f) = inr refl

skip_print : (f : Shape) (v : Value) → Proper f counts_nothing v → skip_blanks (print f v) ≡ print f v
unfolding print
skip_print f v p =
    elim (front_cases f) [
      | inl none ↦ rw none refl
      | inr some ↦ let text = texted f counts_nothing v [] some p in ap skip_blanks (sym (append-nil (print f v))) ∙ skip_front (print f v ++ []) text.front ∙ append-nil (print f v)
    ]

reads_back : (f : Shape) (v : Value) → is_sound f ≡ true → HasLengths f → Proper f counts_nothing v → bytes_of_text f (print f v) ≡ Ok (bytes_of f v)
unfolding bytes_of_text value_of_text read_all
reads_back f v sound long p =
    let a = again f counts_nothing v [] sound long p tt in
    let read : read_at f (skip_blanks (print f v)) ≡ Ok (a.value, []) = ap (read_at f) (skip_print f v p ∙ sym (append-nil (print f v))) ∙ a.read in
    let right : wrong_count f no_count a.value ≡ None = a.right no_count no_counts in
    let same : bytes_of f a.value ≡ bytes_of f v = sym (layout_like f counts_nothing counts_nothing v a.value 0 (λ by. refl) a.like) in
    rw (read, right) (ap (λ (x : List ℕ). Ok x) same)

pub printed_form : PrintedIsFormOf
unfolding text_of_bytes
printed_form f bytes is long canonical =
    let (v, from, fits, same, back) = canonical_layout f bytes is canonical in
    let sound = sound_shape f is in
    (print f v, rw from refl, reads_back f v sound long (proper f counts_nothing v sound fits same) ∙ ap (λ (x : List ℕ). Ok x) back)
