-- A turn of the loops that write.
use Rattle.std.proofs.Common.{◌≡◌, ℕ, suc, ◌+◌, ◌-◌, ◌<◌, ◌≤◌, List, [], ◌++◌, length, get_or, drop, refl, sym, ap, ◌∙◌, append_assoc}
use Rattle.std.proofs.Common.{length-append, append-nil, arith}
use Rattle.std.proofs.lemmas.List.{at_drop_more, at_drop_all}
use Rattle.ng_shape.specs.declared.shape.Field.{Field}
use Rattle.ng_shape.specs.Shape.{CountField, shape_of, fields_of}
use Rattle.ng_shape.specs.Values.{Value, find}
use Rattle.ng_shape.specs.Layout.{layout, fields_bytes, array_bytes}

-- what was written, and what is still to come behind it
written : (old piece next total : List ℕ) (front : ℕ) (rest : ℕ → List ℕ) → front ≤ length old → next ≡ old ++ piece
    → old ++ (piece ++ rest (length old - front + length piece)) ≡ total → next ++ rest (length next - front) ≡ total
written old piece next total front rest le e before =
    let long : length next ≡ length old + length piece = ap length e ∙ length-append old piece in
    let at : length next - front ≡ length old - front + length piece = omega arith in
    rw at (ap (λ (x : List ℕ). x ++ rest (length old - front + length piece)) e ∙ append_assoc old piece (rest (length old - front + length piece)) ∙ before)

pub array_more : (p : Value → ℕ → List ℕ) (ms : List (ℕ × Value)) (n i front : ℕ) (old next total : List ℕ) → i < n → front ≤ length old → next ≡ old ++ p (find i ms) (length old - front)
    → old ++ array_bytes p ms i (n - i) (length old - front) ≡ total → next ++ array_bytes p ms (i + 1) (n - (i + 1)) (length next - front) ≡ total
unfolding array_bytes
array_more p ms n i front old next total lt le e before =
    let at = length old - front in
    let piece = p (find i ms) at in
    let k : n - i ≡ suc (n - (i + 1)) = omega arith in
    let one : array_bytes p ms i (n - i) at ≡ piece ++ array_bytes p ms (i + 1) (n - (i + 1)) (at + length piece) = rw k refl in
    written old piece next total front (λ at. array_bytes p ms (i + 1) (n - (i + 1)) at) le e (ap (λ (x : List ℕ). old ++ x) (sym one) ∙ before)

pub array_done : (p : Value → ℕ → List ℕ) (ms : List (ℕ × Value)) (n i at : ℕ) (out total : List ℕ) → n ≤ i → out ++ array_bytes p ms i (n - i) at ≡ total → out ≡ total
unfolding array_bytes
array_done p ms n i at out total le now =
    let k : n - i ≡ 0 = omega arith in
    let one : array_bytes p ms i (n - i) at ≡ [] = rw k refl in
    sym (append-nil out) ∙ ap (λ (x : List ℕ). out ++ x) (sym one) ∙ now

pub fields_more : (fs : List Field) (count : CountField → ℕ) (ms : List (ℕ × Value)) (i j front : ℕ) (d : Field) (old next total : List ℕ) → i < length fs → front ≤ length old → next ≡ old ++ layout (shape_of (get_or fs i d).shape) count (find j ms) (length old - front)
    → old ++ fields_bytes (fields_of (drop i fs)) count ms j (length old - front) ≡ total → next ++ fields_bytes (fields_of (drop (i + 1) fs)) count ms (j + 1) (length next - front) ≡ total
unfolding layout fields_bytes
fields_more fs count ms i j front d old next total lt le e before =
    let at = length old - front in
    let piece = layout (shape_of (get_or fs i d).shape) count (find j ms) at in
    let one : fields_bytes (fields_of (drop i fs)) count ms j at ≡ piece ++ fields_bytes (fields_of (drop (i + 1) fs)) count ms (j + 1) (at + length piece) = at_drop_more (λ gs. fields_bytes (fields_of gs) count ms j at) fs i d lt in
    written old piece next total front (λ at. fields_bytes (fields_of (drop (i + 1) fs)) count ms (j + 1) at) le e (ap (λ (x : List ℕ). old ++ x) (sym one) ∙ before)

pub fields_done : (fs : List Field) (count : CountField → ℕ) (ms : List (ℕ × Value)) (i j at : ℕ) (out total : List ℕ) → length fs ≤ i → out ++ fields_bytes (fields_of (drop i fs)) count ms j at ≡ total → out ≡ total
unfolding layout fields_bytes
fields_done fs count ms i j at out total le now =
    let one : fields_bytes (fields_of (drop i fs)) count ms j at ≡ [] = at_drop_all (λ gs. fields_bytes (fields_of gs) count ms j at) fs i le in
    sym (append-nil out) ∙ ap (λ (x : List ℕ). out ++ x) (sym one) ∙ now

pub longer : (old piece next : List ℕ) → next ≡ old ++ piece → length old ≤ length next
longer old piece next e = omega (arith, ap length e, length-append old piece)
