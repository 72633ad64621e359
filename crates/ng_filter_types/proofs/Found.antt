-- What is at a place is found.
use Rattle.std.proofs.Common.{◌≡◌, ◌==◌, ℕ, true, List, Option, Some, None, is_some, find, refl}
use Rattle.ng_sorted.specs.Order.{IsPlace}
use Rattle.ng_sorted.proofs.InOrder.{place_is_found}

some_of : {X : Type 0} (o : Option X) → (o ≡ None → ⊥) → is_some o ≡ true
some_of None absent = absurd (absent refl)
some_of (Some x) absent = refl

pub found_some : {X : Type 0} (key : X → ℕ) (xs : List X) (a k : ℕ) → IsPlace key xs a k → is_some (find (λ x. key x == a) xs) ≡ true
found_some key xs a k at = some_of (find (λ x. key x == a) xs) (place_is_found key xs a k at)
