-- Lists in parts, and the first place that passes a test.
use Rattle.std.proofs.Common.{◌≡◌, ℕ, suc, ◌+◌, ◌<◌, Bool, true, false, cond, ◌||◌, List, [], ◌∷◌, ◌++◌, length, get_or, refl, sym, ap, ◌∙◌, subst, arith}
use Rattle.std.specs.Prelude.{IfNone, IfSome}
use Rattle.std.specs.List.{list_any, position_from}
use Rattle.std.specs.declared.option.Option.{Option}
use Rattle.std.specs.declared.option.Option.TheVariants.{None, Some}

abbrev tail : {A : Type 0} → List A → List A
tail [] = []
tail (x ∷ xs) = xs

same_head : {A : Type 0} (x y : A) (xs ys : List A) → x ∷ xs ≡ y ∷ ys → x ≡ y
same_head x y xs ys e = ap (λ (l : List _). get_or l 0 x) e

-- what is cut off later begins with what is cut off earlier
pub earlier : {A : Type 0} (xs ys us vs : List A) (x : A) → xs ++ x ∷ us ≡ ys ++ vs → length xs < length ys → (zs : List A) × (ys ≡ (xs ++ x ∷ []) ++ zs)
earlier xs [] us vs x e lt = absurd (omega arith)
earlier [] (y ∷ ys) us vs x e lt = (ys, ap (λ (z : _). z ∷ ys) (sym (same_head x y us (ys ++ vs) e)))
earlier (a ∷ xs) (y ∷ ys) us vs x e lt =
    let rest = earlier xs ys us vs x (ap tail e) (omega arith) in
    (rest.0, ap (λ (z : _). z ∷ ys) (sym (same_head a y (xs ++ x ∷ us) (ys ++ vs) e)) ∙ ap (λ (l : List _). a ∷ l) rest.1)

module _ {A : Type 0} (test : A → Bool) where
  not_some : (i : ℕ) → None ≡ Some i → ⊥
  not_some i e = absurd (cc e)

  none_by : (b : Bool) (xs : List A) (n : ℕ) → (position_from test (n + 1) xs ≡ None → list_any test xs ≡ false) → cond b (Some n) (position_from test (n + 1) xs) ≡ None → (b || list_any test xs) ≡ false
  none_by true xs n rest e = absurd (not_some n (sym e))
  none_by false xs n rest e = rest e

  pub none_passes : (xs : List A) (n : ℕ) → position_from test n xs ≡ None → list_any test xs ≡ false
  none_passes [] n e = refl
  none_passes (x ∷ xs) n e = none_by (test x) xs n (none_passes xs (n + 1)) e

  -- a place inside that passes
  pub record IsPassed (xs : List A) (k : ℕ) : Type 0 where
    pub inside : k < length xs
    pub passes : (d : A) → test (get_or xs k d) ≡ true

  abbrev FoundFrom : List A → ℕ → ℕ → Type 0
  FoundFrom xs n i = (k : ℕ) × (i ≡ n + k) × IsPassed xs k

  found_by : (b : Bool) (x : A) (xs : List A) (n i : ℕ) → test x ≡ b → (position_from test (n + 1) xs ≡ Some i → FoundFrom xs (n + 1) i) → cond b (Some n) (position_from test (n + 1) xs) ≡ Some i → FoundFrom (x ∷ xs) n i
  found_by true x xs n i is rest e = let same : n ≡ i = cc e in (0, omega arith, record { inside = omega arith; passes = λ d. is })
  found_by false x xs n i is rest e =
      let there = rest e in
      let at : i ≡ n + 1 + there.0 = there.1 in
      let less = there.2.inside in
      (suc there.0, omega arith, record { inside = omega arith; passes = λ d. there.2.passes d })

  found_from : (xs : List A) (n i : ℕ) → position_from test n xs ≡ Some i → FoundFrom xs n i
  found_from [] n i e = absurd (not_some i e)
  found_from (x ∷ xs) n i e = found_by (test x) x xs n i refl (found_from xs (n + 1) i) e

  pub first_passes : (xs : List A) (i : ℕ) → position_from test 0 xs ≡ Some i → IsPassed xs i
  first_passes xs i e =
      let there = found_from xs 0 i e in
      let at : i ≡ 0 + there.0 = there.1 in
      let same : there.0 ≡ i = omega arith in
      subst (IsPassed xs) same there.2

  -- what a place that was looked for says

  pub found_within : (xs : List A) (o : Option ℕ) → o ≡ position_from test 0 xs → IfSome o (λ k. k < length xs)
  found_within xs None e = tt
  found_within xs (Some k) e = (first_passes xs k (sym e)).inside

  pub found_passes : (xs : List A) (d : A) (o : Option ℕ) → o ≡ position_from test 0 xs → IfSome o (λ k. test (get_or xs k d) ≡ true)
  found_passes xs d None e = tt
  found_passes xs d (Some k) e = (first_passes xs k (sym e)).passes d

  pub none_found : (xs : List A) (o : Option ℕ) → o ≡ position_from test 0 xs → IfNone o (list_any test xs ≡ false)
  none_found xs None e = none_passes xs 0 (sym e)
  none_found xs (Some k) e = tt
