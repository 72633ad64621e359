-- Lists by their places: what is so of each element after a write, and after one more.
use Rattle.std.proofs.Common.{◌≡◌, ◌≢◌, ℕ, zero, suc, ◌<◌, ◌⊎◌, List, [], ◌∷◌, ◌++◌, map, length, set, refl, sym, ap, subst, inl, inr, ⊎_elim, arith}
use Rattle.std.specs.Prelude.{Contains, slice_index_or}
use mathlib.Core.Option.{some, some-injective, some-ne-none}
use lib.ListN.{get_elem?}
use Rattle.crossbeam_queue.proofs.Lists.{at_set}

module _ {A : Type 0} where
  -- an element of a list with one more at its end is one of the list, or the last
  pub at_push : (xs : List A) (a b : A) (j : ℕ) → get_elem? (xs ++ a ∷ []) j ≡ some b
      → (get_elem? xs j ≡ some b) ⊎ ((j ≡ length xs) × (a ≡ b))
  at_push [] a b zero at = inr (refl, some-injective a b at)
  at_push [] a b (suc j) at = absurd (some-ne-none b (sym at))
  at_push (x ∷ xs) a b zero at = inl at
  at_push (x ∷ xs) a b (suc j) at = ⊎_elim inl (λ last. inr (ap suc last.0, last.1)) (at_push xs a b j at)

  -- the only element of a list of one
  pub at_only : (a b : A) (j : ℕ) → get_elem? (a ∷ []) j ≡ some b → (j ≡ 0) × (a ≡ b)
  at_only a b zero at = (refl, some-injective a b at)
  at_only a b (suc j) at = absurd (some-ne-none b (sym at))

  pub set_there : (xs : List A) (i : ℕ) (a b : A) → get_elem? xs i ≡ some a → get_elem? (set xs i b) i ≡ some b
  set_there [] i a b at = absurd (some-ne-none a (sym at))
  set_there (x ∷ xs) zero a b at = refl
  set_there (x ∷ xs) (suc i) a b at = set_there xs i a b at

  -- what is so of the element that is written and of each other is so of each
  pub each_set : (P : ℕ → A → Type 0) (xs : List A) (i : ℕ) (a : A) → P i a
      → ((j : ℕ) (b : A) → j ≢ i → get_elem? xs j ≡ some b → P j b)
      → (j : ℕ) (b : A) → get_elem? (set xs i a) j ≡ some b → P j b
  each_set P xs i a here others j b at = ⊎_elim
      (λ (same : (j ≡ i) × (a ≡ b)). subst (λ (y : ℕ × A). P y.0 y.1) (λ k. (sym same.0 k, same.1 k)) here)
      (λ (other : (j ≢ i) × (get_elem? xs j ≡ some b)). others j b other.0 other.1)
      (at_set xs i j a b at)

  -- what is so of each element and of one more is so of each
  pub each_push : (P : ℕ → A → Type 0) (xs : List A) (a : A) → P (length xs) a
      → ((j : ℕ) (b : A) → get_elem? xs j ≡ some b → P j b)
      → (j : ℕ) (b : A) → get_elem? (xs ++ a ∷ []) j ≡ some b → P j b
  each_push P xs a last others j b at = ⊎_elim
      (λ (old : get_elem? xs j ≡ some b). others j b old)
      (λ (new : (j ≡ length xs) × (a ≡ b)). subst (λ (y : ℕ × A). P y.0 y.1) (λ k. (sym new.0 k, new.1 k)) last)
      (at_push xs a b j at)

  -- an element stands below the length, and below the length an element stands
  pub place_below : (xs : List A) (k : ℕ) (x : A) → get_elem? xs k ≡ some x → k < length xs
  place_below [] k x at = absurd (some-ne-none x (sym at))
  place_below (y ∷ ys) zero x at = omega arith
  place_below (y ∷ ys) (suc k) x at = let below = place_below ys k x at in omega arith

  pub there_below : (xs : List A) (k : ℕ) → k < length xs → (x : A) × (get_elem? xs k ≡ some x)
  there_below [] k below = absurd (omega arith)
  there_below (y ∷ ys) zero below = (y, refl)
  there_below (y ∷ ys) (suc k) below = there_below ys k (omega arith)

  pub contains_none : (a : A) → Contains [] a → ⊥
  contains_none a within = let none = within.1 in omega arith

  pub contains_here : (x : A) (xs : List A) → Contains (x ∷ xs) x
  contains_here x xs = (0, omega arith, refl)

  only_at : (x a : A) (k : ℕ) → k < length (x ∷ []) → slice_index_or (x ∷ []) k a ≡ a → x ≡ a
  only_at x a zero l e = e
  only_at x a (suc k) l e = absurd (omega arith)

  pub contains_only : (x a : A) → Contains (x ∷ []) a → x ≡ a
  contains_only x a within = only_at x a within.0 within.1 within.2

module _ {A B : Type 0} (f : A → B) where
  from_map_at : (xs : List A) (b : B) (k : ℕ) → k < length (map f xs) → slice_index_or (map f xs) k b ≡ b
      → (a : A) × Contains xs a × (f a ≡ b)
  from_map_at [] b k l e = absurd (omega arith)
  from_map_at (x ∷ xs) b zero l e = (x, contains_here x xs, e)
  from_map_at (x ∷ xs) b (suc k) l e =
      let rest = from_map_at xs b k (omega arith) e in let within = rest.1.1 in
      (rest.0, (suc rest.1.0, omega arith, rest.1.2), rest.2)

  -- an element of a list that was made by a function comes from one of the list
  pub contains_map : (xs : List A) (b : B) → Contains (map f xs) b → (a : A) × Contains xs a × (f a ≡ b)
  contains_map xs b within = from_map_at xs b within.0 within.1 within.2
