-- A turn of the loops over fields and members.
use Rattle.std.proofs.Common.{◌≡◌, ℕ, ◌+◌, ◌<◌, ◌≤◌, List, [], ◌++◌, length, get_or, drop, Option, Some, None, true, false, is_some, refl, sym, ap}
use Rattle.std.proofs.Common.{◌∙◌, append_assoc}
use Rattle.std.proofs.lemmas.List.{at_drop_more, at_drop_all}
use Rattle.ng_shape.specs.declared.shape.Field.{Field}
use Rattle.ng_shape.specs.declared.tree.Member.{Member}
use Rattle.ng_shape.specs.Shape.{Fields, CountField, shape_of, fields_of}
use Rattle.ng_shape.specs.Values.{Value, value_of, members_of, find}
use Rattle.ng_parse.specs.declared.fault.Fault.{Fault}
use Rattle.ng_parse.specs.Counts.{fill_field, fill_counts, wrong_count, wrong_count_in}
use Rattle.ng_parse.specs.Printing.{print, print_fields, print_field, print_index, print_elements}

-- ---- counts filled in

pub filled_turn : (whole : Fields) (fs : List Field) (i j : ℕ) (d : Field) (ms next total : List (ℕ × Value)) → i < length fs → next ≡ fill_field whole (shape_of (get_or fs i d).shape) j ms
    → fill_counts whole (fields_of (drop i fs)) j ms ≡ total → fill_counts whole (fields_of (drop (i + 1) fs)) (j + 1) next ≡ total
filled_turn whole fs i j d ms next total lt e now =
    rw e (sym (at_drop_more (λ gs. fill_counts whole (fields_of gs) j ms) fs i d lt) ∙ now)

pub filled_end : (whole : Fields) (fs : List Field) (i j : ℕ) (ms total : List (ℕ × Value)) → length fs ≤ i → fill_counts whole (fields_of (drop i fs)) j ms ≡ total → ms ≡ total
filled_end whole fs i j ms total le now = sym (at_drop_all (λ gs. fill_counts whole (fields_of gs) j ms) fs i le) ∙ now

-- ---- wrong counts

pub count_turn : (fs : List Field) (count : CountField → Value) (ms : List (ℕ × Value)) (i j : ℕ) (d : Field) (total : Option Fault) → i < length fs → wrong_count (shape_of (get_or fs i d).shape) count (find j ms) ≡ None
    → wrong_count_in (fields_of (drop i fs)) count ms j ≡ total → wrong_count_in (fields_of (drop (i + 1) fs)) count ms (j + 1) ≡ total
unfolding wrong_count wrong_count_in
count_turn fs count ms i j d total lt e now =
    let one = at_drop_more (λ gs. wrong_count_in (fields_of gs) count ms j) fs i d lt in
    sym (one ∙ rw e refl) ∙ now

pub count_stops : (fs : List Field) (count : CountField → Value) (ms : List (ℕ × Value)) (i j : ℕ) (d : Field) (fault : Fault) (total : Option Fault) → i < length fs → wrong_count (shape_of (get_or fs i d).shape) count (find j ms) ≡ Some fault
    → wrong_count_in (fields_of (drop i fs)) count ms j ≡ total → Some fault ≡ total
unfolding wrong_count wrong_count_in
count_stops fs count ms i j d fault total lt e now =
    let one = at_drop_more (λ gs. wrong_count_in (fields_of gs) count ms j) fs i d lt in
    sym (one ∙ rw e refl) ∙ now

pub count_found : (fs : List Field) (count : CountField → Value) (ms : List (ℕ × Value)) (i j : ℕ) (d : Field) (found : Option Fault) (total : Option Fault) → i < length fs → is_some found ≡ true → found ≡ wrong_count (shape_of (get_or fs i d).shape) count (find j ms)
    → wrong_count_in (fields_of (drop i fs)) count ms j ≡ total → found ≡ total
count_found fs count ms i j d None total lt some e now = absurd cc
count_found fs count ms i j d (Some fault) total lt some e now = count_stops fs count ms i j d fault total lt (sym e) now

pub count_passed : (fs : List Field) (count : CountField → Value) (ms : List (ℕ × Value)) (i j : ℕ) (d : Field) (found : Option Fault) (total : Option Fault) → i < length fs → is_some found ≡ false → found ≡ wrong_count (shape_of (get_or fs i d).shape) count (find j ms)
    → wrong_count_in (fields_of (drop i fs)) count ms j ≡ total → wrong_count_in (fields_of (drop (i + 1) fs)) count ms (j + 1) ≡ total
count_passed fs count ms i j d None total lt none e now = count_turn fs count ms i j d total lt (sym e) now
count_passed fs count ms i j d (Some fault) total lt none e now = absurd cc

pub count_end : (fs : List Field) (count : CountField → Value) (ms : List (ℕ × Value)) (i j : ℕ) (total : Option Fault) → length fs ≤ i → wrong_count_in (fields_of (drop i fs)) count ms j ≡ total → None ≡ total
unfolding wrong_count wrong_count_in
count_end fs count ms i j total le now = sym (at_drop_all (λ gs. wrong_count_in (fields_of gs) count ms j) fs i le) ∙ now

-- ---- text

pub printed_turn : (fs : List Field) (ms : List (ℕ × Value)) (i j : ℕ) (d : Field) (old next total : List ℕ) → i < length fs → next ≡ old ++ print_field (get_or fs i d).name.now (print (shape_of (get_or fs i d).shape)) (find j ms)
    → old ++ print_fields (fields_of (drop i fs)) ms j ≡ total → next ++ print_fields (fields_of (drop (i + 1) fs)) ms (j + 1) ≡ total
unfolding print print_fields
printed_turn fs ms i j d old next total lt e now =
    let step : print_fields (fields_of (drop i fs)) ms j ≡ print_field (get_or fs i d).name.now (print (shape_of (get_or fs i d).shape)) (find j ms) ++ print_fields (fields_of (drop (i + 1) fs)) ms (j + 1) = at_drop_more (λ gs. print_fields (fields_of gs) ms j) fs i d lt in
    let field = print_field (get_or fs i d).name.now (print (shape_of (get_or fs i d).shape)) (find j ms) in
    let rest = print_fields (fields_of (drop (i + 1) fs)) ms (j + 1) in
    ap (λ (x : List ℕ). x ++ rest) e ∙ append_assoc old field rest ∙ ap (λ (x : List ℕ). old ++ x) (sym step) ∙ now

pub printed_end : (fs : List Field) (ms : List (ℕ × Value)) (i j : ℕ) → length fs ≤ i → print_fields (fields_of (drop i fs)) ms j ≡ []
unfolding print print_fields
printed_end fs ms i j le = at_drop_all (λ gs. print_fields (fields_of gs) ms j) fs i le

pub element_turn : (p : Value → List ℕ) (ms : List Member) (i next : ℕ) (d : Member) (old marked out total : List ℕ) → i < length ms → marked ≡ old ++ print_index next (get_or ms i d).number → out ≡ marked ++ p (value_of (get_or ms i d).tree)
    → old ++ print_elements p next (members_of (drop i ms)) ≡ total → out ++ print_elements p ((get_or ms i d).number + 1) (members_of (drop (i + 1) ms)) ≡ total
element_turn p ms i next d old marked out total lt e f now =
    let m = get_or ms i d in
    let rest = print_elements p (m.number + 1) (members_of (drop (i + 1) ms)) in
    let step : print_elements p next (members_of (drop i ms)) ≡ (print_index next m.number ++ p (value_of m.tree)) ++ rest = at_drop_more (λ ks. print_elements p next (members_of ks)) ms i d lt in
    let joined : out ≡ old ++ (print_index next m.number ++ p (value_of m.tree)) = rw (f, e) (append_assoc old (print_index next m.number) (p (value_of m.tree))) in
    ap (λ (x : List ℕ). x ++ rest) joined ∙ append_assoc old (print_index next m.number ++ p (value_of m.tree)) rest ∙ ap (λ (x : List ℕ). old ++ x) (sym step) ∙ now

pub elements_end : (p : Value → List ℕ) (ms : List Member) (i next : ℕ) → length ms ≤ i → print_elements p next (members_of (drop i ms)) ≡ []
elements_end p ms i next le = at_drop_all (λ ks. print_elements p next (members_of ks)) ms i le
