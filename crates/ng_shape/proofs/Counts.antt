-- A turn of the loop over counted arrays.
use Rattle.std.proofs.Common.{◌≡◌, ◌<◌, ◌+◌, ◌&&◌, ℕ, zero, suc, Bool, true, false, List, [], ◌∷◌, length, get_or, take, drop, refl, sym, ap, ◌∙◌}
use Rattle.std.proofs.lemmas.List.{at_drop_more}
use Rattle.ng_shape.specs.declared.shape.Field.{Field}
use Rattle.ng_shape.specs.Shape.{field, shape_of, fields_of}
use Rattle.ng_shape.specs.Sound.{first_fields, has_counts, is_counted_well}

fields_of_take : (i : ℕ) (fs : List Field) → fields_of (take i fs) ≡ first_fields i (fields_of fs)
fields_of_take zero [] = refl
fields_of_take zero (f ∷ fs) = refl
fields_of_take (suc i) [] = refl
fields_of_take (suc i) (f ∷ fs) = ap (field f.name.now (shape_of f.shape)) (fields_of_take i fs)

-- one field
counts_here : (fs : List Field) (i : ℕ) (d : Field) (r : Bool) → i < length fs → r ≡ is_counted_well (fields_of (take i fs)) (shape_of (get_or fs i d).shape)
    → has_counts (fields_of fs) i (fields_of (drop i fs)) ≡ (r && has_counts (fields_of fs) (i + 1) (fields_of (drop (i + 1) fs)))
counts_here fs i d r lt e =
    at_drop_more (λ gs. has_counts (fields_of fs) i (fields_of gs)) fs i d lt
    ∙ rw (e, fields_of_take i fs) refl

pub counts_more : (fs : List Field) (i : ℕ) (d : Field) (total : Bool) → i < length fs → true ≡ is_counted_well (fields_of (take i fs)) (shape_of (get_or fs i d).shape)
    → has_counts (fields_of fs) i (fields_of (drop i fs)) ≡ total → has_counts (fields_of fs) (i + 1) (fields_of (drop (i + 1) fs)) ≡ total
counts_more fs i d total lt e before = sym (counts_here fs i d true lt e) ∙ before

pub counts_stop : (fs : List Field) (i : ℕ) (d : Field) (total : Bool) → i < length fs → false ≡ is_counted_well (fields_of (take i fs)) (shape_of (get_or fs i d).shape)
    → has_counts (fields_of fs) i (fields_of (drop i fs)) ≡ total → false ≡ total
counts_stop fs i d total lt e before = sym (counts_here fs i d false lt e) ∙ before
