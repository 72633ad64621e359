-- The widest integer is at least a byte, and at most eight.
use Rattle.std.proofs.Common.{◌≡◌, ◌≤◌, zero, suc, ℕ, List, [], ◌∷◌, length, get_or, refl, arith}
use Rattle.std.proofs.lemmas.Bool.Decides.{nat_tests}
use Rattle.ng_shape.specs.declared.shape.Field.{Field}
use Rattle.ng_shape.specs.Shape.{Fields, no_fields, field, shape_of, fields_of}
use Rattle.ng_shape.specs.Sound.{is_counted}
use Rattle.ng_shape.specs.Layout.{widest_field, width, ends_counted}

pub width_low : (bits : ℕ) → 1 ≤ width bits
width_low bits = grind (arith, nat_tests)

pub width_high : (bits : ℕ) → width bits ≤ 8
width_high bits = grind (arith, nat_tests)

pub widest_low : (ps : Fields) → 1 ≤ widest_field ps
widest_low no_fields = omega arith
widest_low (field n f ps) = omega (arith, widest_low ps)

pub ends_counted_last : (fs : List Field) (n : ℕ) (d : Field) → length fs ≡ suc n → is_counted (shape_of (get_or fs n d).shape) ≡ ends_counted (fields_of fs)
ends_counted_last [] n d e = absurd (omega (arith, e))
ends_counted_last (f ∷ []) zero d e = refl
ends_counted_last (f ∷ []) (suc n) d e = absurd (omega (arith, e))
ends_counted_last (f ∷ g ∷ fs) zero d e = absurd (omega (arith, e))
ends_counted_last (f ∷ g ∷ fs) (suc n) d e = ends_counted_last (g ∷ fs) n d (omega (arith, e))
