-- Counts that are filled in have room in their fields.
use Rattle.std.proofs.Common.{◌≡◌, ◌<◌, ◌+◌, ◌^◌, ℕ, zero, suc, true, eqb, ltb, leb, ◌&&◌, not, List, [], ◌∷◌, Option, Some, None, refl, sym, subst}
use Rattle.std.proofs.Common.{inl, inr, arith}
use Rattle.std.specs.Str.{bytes_eq}
use Rattle.std.proofs.lemmas.Bool.{and_parts, cond_both, leb-true, eqb-true}
use Rattle.ng_shape.specs.Shape.{Shape, Nothing, UInt, Int, Hex, Str, Ether, Struct, Array, Counted, Fields, no_fields, field, CountField, Own}
use Rattle.ng_shape.specs.Shape.{Inside, field_number, shape_named}
use Rattle.ng_shape.specs.Sound.{has_counts, is_counted_well, first_fields, can_count, counter_shape, counts, counts_inside}
use Rattle.ng_shape.specs.Values.{Value, Number, Group, is_absent, members, find, pack}
use Rattle.ng_shape.proofs.Lookups.{bool_cases, can_count_bits, inside_is, shape_at}
use Rattle.ng_shape.proofs.Views.{unpack_pack}
use Rattle.ng_parse.specs.Counts.{left_of, count_value, reach, without, put_field, put_count, fill_count, fill_field, fill_counts}
use Rattle.ng_parse.proofs.Kept.{Each, Kept, KeptAt}

each_without : (P : ℕ → Value → Type 0) (i : ℕ) (ms : List (ℕ × Value)) → Each P ms → Each P (without i ms)
each_without P i [] all = tt
each_without P i (m ∷ ms) all = cond_both (eqb m.0 i) ms (m ∷ without i ms) (Each P) (λ e. all.1) (λ e. (all.0, each_without P i ms all.1))

put_kept : (P : ℕ → Value → Type 0) (i : ℕ) (v : Value) (ms : List (ℕ × Value)) → Each P ms → P i v → Each P (put_field (Some i) v ms)
put_kept P i v ms all one = (one, each_without P i ms all)

pub kept_form : (ps : Fields) (i : ℕ) (f : Shape) (v : Value) → shape_at ps i ≡ Some f → Kept f v → KeptAt ps i v
kept_form no_fields i f v e kept = tt
kept_form (field name g ps) zero f v e kept = let same : f ≡ g = cc in subst (λ (h : Shape). Kept h v) same kept
kept_form (field name g ps) (suc i) f v e kept = kept_form ps i f v e kept

pub shape_kept : (ps : Fields) (i : ℕ) (f : Shape) (v : Value) → shape_at ps i ≡ Some f → KeptAt ps i v → Kept f v
shape_kept no_fields i f v e kept = cc
shape_kept (field name g ps) zero f v e kept = let same : g ≡ f = cc in subst (λ (h : Shape). Kept h v) same kept
shape_kept (field name g ps) (suc i) f v e kept = shape_kept ps i f v e kept

-- the name finds field i, which has the shape f
record Named (ps : Fields) (name : List ℕ) (f : Shape) : Type 0 where
  i : ℕ
  found : field_number ps name ≡ Some i
  is : shape_at ps i ≡ Some f

named : (ps : Fields) (name : List ℕ) (f : Shape) → shape_named ps name ≡ Some f → Named ps name f
named no_fields name f e = cc
named (field n g ps) name f e =
    elim (bool_cases (bytes_eq n name)) [
      | inl hit ↦ let here : Some g ≡ Some f = rw hit at e in record { i = 0; found = rw hit refl; is = here }
      | inr miss ↦ let later = named ps name f (rw miss at e) in record { i = suc later.i; found = rw (miss, later.found) refl; is = later.is }
    ]

first_named : (j : ℕ) (ps : Fields) (name : List ℕ) (f : Shape) → shape_named (first_fields j ps) name ≡ Some f → shape_named ps name ≡ Some f
first_named zero ps name f e = cc
first_named (suc j) no_fields name f e = cc
first_named (suc j) (field n g ps) name f e =
    elim (bool_cases (bytes_eq n name)) [
      | inl hit ↦ let here : Some g ≡ Some f = rw hit at e in rw hit here
      | inr miss ↦ rw miss (first_named j ps name f (rw miss at e))
    ]

structure_kept : (ps qs : Fields) (i : ℕ) (ms : List (ℕ × Value)) → shape_at ps i ≡ Some (Struct qs) → Each (KeptAt ps) ms → Each (KeptAt qs) (members (find i ms))
structure_kept ps qs i [] e all = tt
structure_kept ps qs i (m ∷ ms) e all =
    cond_both (eqb m.0 i) m.1 (find i ms) (λ v. Each (KeptAt qs) (members v))
    (λ hit. let is : m.0 ≡ i = eqb-true m.0 i hit in shape_kept ps i (Struct qs) m.1 e (subst (λ (k : ℕ). KeptAt ps k m.1) is all.0))
    (λ miss. structure_kept ps qs i ms e all.1)

-- a count that has room in the field that counts
put_count_kept : (ps : Fields) (by : CountField) (j n bits : ℕ) (ms : List (ℕ × Value)) → counter_shape (first_fields j ps) by ≡ Some (UInt bits) → n < 2 ^ bits → Each (KeptAt ps) ms → Each (KeptAt ps) (put_count ps by n ms)
put_count_kept ps (Own name) j n bits ms e lt all =
    let field = named ps name (UInt bits) (first_named j ps name (UInt bits) e) in
    rw field.found (put_kept (KeptAt ps) field.i (Number 0 n) ms all (kept_form ps field.i (UInt bits) (Number 0 n) field.is lt))
put_count_kept ps (Inside name inner) j n bits ms e lt all =
    let (qs, is_structure, is_inner) = inside_is (shape_named (first_fields j ps) name) inner (UInt bits) e in
    let here : shape_named ps name ≡ Some (Struct qs) = first_named j ps name (Struct qs) is_structure in
    let field = named ps name (Struct qs) here in
    let count = named qs inner (UInt bits) is_inner in
    let s = find field.i ms in
    let inside = put_field (Some count.i) (Number 0 n) (members s) in
    let kept : Each (KeptAt qs) inside = put_kept (KeptAt qs) count.i (Number 0 n) (members s) (structure_kept ps qs field.i ms field.is all) (kept_form qs count.i (UInt bits) (Number 0 n) count.is lt) in
    let whole : Kept (Struct qs) (Group (left_of s) (pack inside)) = subst (Each (KeptAt qs)) (sym (unpack_pack inside)) kept in
    rw (here, field.found, count.found) (put_kept (KeptAt ps) field.i (Group (left_of s) (pack inside)) ms all (kept_form ps field.i (Struct qs) (Group (left_of s) (pack inside)) field.is whole))

fill_count_kept : (ps : Fields) (by : CountField) (j max n : ℕ) (ms : List (ℕ × Value)) → can_count max (counter_shape (first_fields j ps) by) ≡ true → Each (KeptAt ps) ms → Each (KeptAt ps) (fill_count ps by max n ms)
fill_count_kept ps by j max n ms e all =
    let (bits, is, lt) = can_count_bits max (counter_shape (first_fields j ps) by) e in
    cond_both (is_absent (count_value ps ms by) && ltb 0 n && leb n max) (put_count ps by n ms) ms (Each (KeptAt ps))
    (λ test. let le = leb-true n max (and_parts (is_absent (count_value ps ms by) && ltb 0 n) (leb n max) test).1 in put_count_kept ps by j n bits ms is (omega arith) all)
    (λ test. all)

fill_field_kept : (ps : Fields) (f : Shape) (j : ℕ) (ms : List (ℕ × Value)) → is_counted_well (first_fields j ps) f ≡ true → Each (KeptAt ps) ms → Each (KeptAt ps) (fill_field ps f j ms)
fill_field_kept ps Nothing j ms e all = all
fill_field_kept ps (UInt bits) j ms e all = all
fill_field_kept ps (Int bits) j ms e all = all
fill_field_kept ps (Hex bits) j ms e all = all
fill_field_kept ps (Str n) j ms e all = all
fill_field_kept ps Ether j ms e all = all
fill_field_kept ps (Struct qs) j ms e all = all
fill_field_kept ps (Array n f) j ms e all = all
fill_field_kept ps (Counted by max f) j ms e all =
    let earlier = first_fields j ps in
    let both = and_parts (can_count max (counter_shape earlier by) && not (counts by earlier)) (not (counts_inside by earlier)) e in
    let first = and_parts (can_count max (counter_shape earlier by)) (not (counts by earlier)) both.0 in
    fill_count_kept ps by j max (reach (members (find j ms))) ms first.0 all

pub filled_kept : (ps whole : Fields) (j : ℕ) (ms : List (ℕ × Value)) → has_counts whole j ps ≡ true → Each (KeptAt whole) ms → Each (KeptAt whole) (fill_counts whole ps j ms)
filled_kept no_fields whole j ms e all = all
filled_kept (field name f ps) whole j ms e all =
    let both = and_parts (is_counted_well (first_fields j whole) f) (has_counts whole (j + 1) ps) e in
    filled_kept ps whole (j + 1) (fill_field whole f j ms) both.1 (fill_field_kept whole f j ms both.0 all)
