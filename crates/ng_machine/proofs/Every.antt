-- Lists of which each element meets something.
use Rattle.std.proofs.Common.{◌≡◌, Bool, true, false, cond, List, [], ◌∷◌, ◌++◌, map, refl, sym, inl, inr, subst}
use Rattle.std.specs.List.{flat_map, filter, find}
use Rattle.std.specs.declared.option.Option.TheVariants.{Some}
use Rattle.ng_machine.specs.Words.{Has, Every}

pub every_has : {A : Type 0} (P : A → Type 0) (xs : List A) (x : A) → Every P xs → Has x xs → P x
every_has P [] x all h = absurd h
every_has P (y ∷ ys) x all (inl e) = subst P (sym e) all.0
every_has P (y ∷ ys) x all (inr h) = every_has P ys x all.1 h

pub every_join : {A : Type 0} (P : A → Type 0) (xs ys : List A) → Every P xs → Every P ys → Every P (xs ++ ys)
every_join P [] ys a b = b
every_join P (x ∷ xs) ys a b = (a.0, every_join P xs ys a.1 b)

pub every_push : {A : Type 0} (P : A → Type 0) (xs : List A) (x : A) → Every P xs → P x → Every P (xs ++ x ∷ [])
every_push P xs x all one = every_join P xs (x ∷ []) all (one, tt)

pub every_filter : {A : Type 0} (P : A → Type 0) (test : A → Bool) (xs : List A) → Every P xs → Every P (filter test xs)
every_filter P test [] all = tt
every_filter {A = A} P test (x ∷ xs) all = by (test x) (every_filter P test xs all.1)
  where
    by : (b : Bool) → Every P (filter test xs) → Every P (cond b (x ∷ filter test xs) (filter test xs))
    by true rest = (all.0, rest)
    by false rest = rest

pub every_imply : {A : Type 0} (P Q : A → Type 0) → ((x : A) → P x → Q x) → (xs : List A) → Every P xs → Every Q xs
every_imply P Q f [] all = tt
every_imply P Q f (x ∷ xs) all = (f x all.0, every_imply P Q f xs all.1)

pub every_map : {A B : Type 0} (P : A → Type 0) (Q : B → Type 0) (f : A → B) → ((x : A) → P x → Q (f x)) → (xs : List A) → Every P xs → Every Q (map f xs)
every_map P Q f one [] all = tt
every_map P Q f one (x ∷ xs) all = (one x all.0, every_map P Q f one xs all.1)

-- what is found among elements that each meet P meets it
pub every_find : {A : Type 0} (P : A → Type 0) (test : A → Bool) (xs : List A) (x : A) → Every P xs → find test xs ≡ Some x → P x
every_find P test [] x all e = absurd (cc e)
every_find {A = A} P test (y ∷ ys) x all e = by (test y) e (every_find P test ys x all.1)
  where
    by : (b : Bool) → cond b (Some y) (find test ys) ≡ Some x → (find test ys ≡ Some x → P x) → P x
    by true is more = let same : y ≡ x = cc is in subst P same all.0
    by false is more = more is

pub every_flat : {A B : Type 0} (P : B → Type 0) (f : A → List B) (xs : List A) → ((x : A) → Has x xs → Every P (f x)) → Every P (flat_map f xs)
every_flat P f [] h = tt
every_flat P f (x ∷ xs) h = every_join P (f x) (flat_map f xs) (h x (inl refl)) (every_flat P f xs (λ y k. h y (inr k)))
