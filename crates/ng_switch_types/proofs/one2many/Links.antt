-- The first active link.
use Rattle.std.proofs.Common.{◌≡◌, ℕ, zero, suc, ◌+◌, ◌<◌, Bool, true, false, cond, ◌&&◌, ◌==◌, [], ◌∷◌, ◌++◌, List, Option, Some, None, find, filter, map, slice_get, nat_le, if◌then◌else◌, refl, ap, ◌∙◌, arith, inl, inr, add-one}
use Rattle.std.specs.Option.{option_or, option_to_list}
use Rattle.std.proofs.lemmas.Bool.{cases_Bool, cases_lt}
use Rattle.std.proofs.lemmas.Bool.Decides.{nat_tests}
use Rattle.std.proofs.lemmas.List.{append-nil, map-append}
use Rattle.std.proofs.lemmas.List.Elements.{filter-append}
use Rattle.std.proofs.lemmas.List.Folds.{find-append}
use Rattle.ng_machine.specs.kinds.One2many.{One2many, links_to_deal, many}
use Rattle.ng_machine.specs.Words.{below}

-- the first that passes both tests
abbrev pub first_of : (q p : ℕ → Bool) → ℕ → Option ℕ
first_of q p n = find q (filter p (below n))

single : (q : ℕ → Bool) (n : ℕ) (b : Bool) → find q (cond b (n ∷ []) []) ≡ (if q n && b then Some n else None)
single q n true = elim (cases_Bool (q n)) [ inl is ↦ rw is refl | inr other ↦ rw other refl ]
single q n false = elim (cases_Bool (q n)) [ inl is ↦ rw is refl | inr other ↦ rw other refl ]

first_more : (q p : ℕ → Bool) (n : ℕ) → first_of q p (suc n) ≡ option_or (first_of q p n) (if q n && p n then Some n else None)
first_more q p n =
    ap (find q) (filter-append p (below n) (n ∷ [])) ∙ find-append q (filter p (below n)) (filter p (n ∷ []))
    ∙ ap (option_or (first_of q p n)) (single q n (p n))

pub none_more : (q p : ℕ → Bool) (i : ℕ) → first_of q p i ≡ None → (q i && p i) ≡ false → first_of q p (i + 1) ≡ None
none_more q p i none fails = ap (first_of q p) (add-one i) ∙ first_more q p i ∙ rw (none, fails) refl

pub first_found : (q p : ℕ → Bool) (i n : ℕ) → first_of q p i ≡ None → (q i && p i) ≡ true → i < n → first_of q p n ≡ Some i
first_found q p i zero none is below_n = absurd (omega arith)
first_found q p i (suc n) none is below_n = elim (cases_lt i n) [
  | inl less ↦ first_more q p n ∙ rw (first_found q p i n none is less) refl
  | inr more ↦ let same : i ≡ n = omega arith in rw (← same) (first_more q p i ∙ rw (none, is) refl)
]

-- the first of all
pub first_at : (xs : List ℕ) → find (nat_le 0) xs ≡ slice_get xs 0
first_at [] = refl
first_at (x ∷ xs) = let least : nat_le 0 x ≡ true = grind (arith, nat_tests) in rw least refl

-- the hooks of the active links, by one link more
hooks_by : (p : ℕ → Bool) (n : ℕ) → map many (filter p (below (n + 1))) ≡ map many (filter p (below n)) ++ map many (cond (p n) (n ∷ []) [])
hooks_by p n =
    ap (λ (k : ℕ). map many (filter p (below k))) (add-one n)
    ∙ ap (map many) (filter-append p (below n) (n ∷ []))
    ∙ map-append many (filter p (below n)) (cond (p n) (n ∷ []) [])

pub hooks_more : (p : ℕ → Bool) (n : ℕ) → p n ≡ true → map many (filter p (below (n + 1))) ≡ map many (filter p (below n)) ++ many n ∷ []
hooks_more p n is = hooks_by p n ∙ ap (λ (b : Bool). map many (filter p (below n)) ++ map many (cond b (n ∷ []) [])) is

pub hooks_same : (p : ℕ → Bool) (n : ℕ) → p n ≡ false → map many (filter p (below (n + 1))) ≡ map many (filter p (below n))
hooks_same p n other = hooks_by p n ∙ ap (λ (b : Bool). map many (filter p (below n)) ++ map many (cond b (n ∷ []) [])) other ∙ append-nil (map many (filter p (below n)))

-- by the third algorithm a packet goes to the least
pub dealt_least : (s : One2many) (links : List ℕ) (least : Option ℕ) → (s.algorithm == 1) ≡ false → (s.algorithm == 2) ≡ false → least ≡ slice_get links 0 → option_to_list least ≡ links_to_deal s links
dealt_least s links least not_in_turn not_to_all is = rw (not_in_turn, not_to_all) (ap (λ (link : Option ℕ). option_to_list link) is)
