-- Tests of the elements of a list, where these are looked at through a function.
use Rattle.std.proofs.Common.{◌≡◌, Bool, List, [], ◌∷◌, map, refl, ap, ◌||◌, ◌&&◌}
use Rattle.std.specs.List.{list_any, list_all}

pub any_mapped : {X Y : Type 0} (p : X → Bool) (h : Y → X) (ys : List Y) → list_any p (map h ys) ≡ list_any (λ y. p (h y)) ys
any_mapped p h [] = refl
any_mapped p h (y ∷ ys) = ap (λ b. p (h y) || b) (any_mapped p h ys)

pub all_mapped : {X Y : Type 0} (p : X → Bool) (h : Y → X) (ys : List Y) → list_all p (map h ys) ≡ list_all (λ y. p (h y)) ys
all_mapped p h [] = refl
all_mapped p h (y ∷ ys) = ap (λ b. p (h y) && b) (all_mapped p h ys)
