-- A spread that is defined for a number of visits is the same for more.
use Rattle.std.proofs.Common.{◌≡◌, ℕ, zero, suc, ◌+◌, ◌≤◌, ◌-◌, List, [], ◌∷◌, ◌++◌, true, false, is_some, refl, sym, ap, ap₂, ◌∙◌, subst, arith, true≢false}
use Rattle.std.specs.declared.option.Option.{Option}
use Rattle.std.specs.declared.option.Option.TheVariants.{None, Some}
use Rattle.ng_machine.specs.World.{NodeRecord}
use Rattle.ng_machine.specs.Spread.{Spread, Flight, Fate, Vanishes, Untold, Comes, fate, beside, spread_all, spread_by, spread_in}
use Rattle.ng_laws.specs.still_graph.Bag.{Fuel}

pub none_some : {A : Type 0} (x : A) → None ≡ Some x → ⊥
none_some x e = let q : false ≡ true = ap is_some e in true≢false (sym q)

pub same_some : {A : Type 0} (x y : A) → Some x ≡ Some y → x ≡ y
same_some x y e = cc

-- two spreads stand beside each other where both are defined
pub record BothAre (a b : Option Spread) (all : Spread) : Type 0 where
  pub first : Spread
  pub second : Spread
  pub first_is : a ≡ Some first
  pub second_is : b ≡ Some second
  pub all_is : all ≡ first ++ second

pub both_are : (a b : Option Spread) (all : Spread) → beside a b ≡ Some all → BothAre a b all
both_are None b all e = absurd (none_some all e)
both_are (Some x) None all e = absurd (none_some all e)
both_are (Some x) (Some y) all e = record { first = x; second = y; first_is = refl; second_is = refl; all_is = sym (same_some (x ++ y) all e) }

abbrev pub Extends : {A : Type 0} → (A → Option Spread) → (A → Option Spread) → Type 0
Extends {A = A} g h = (x : A) (s : Spread) → g x ≡ Some s → h x ≡ Some s

pub all_extends : (g h : Flight → Option Spread) → Extends g h → Extends (spread_all g) (spread_all h)
all_extends g h more [] s e = e
all_extends g h more (f ∷ fs) s e =
    let b = both_are (g f) (spread_all g fs) s e in
    ap₂ beside (more f b.first b.first_is) (all_extends g h more fs b.second b.second_is) ∙ ap Some (sym b.all_is)

by_extends : (g h : List Flight → Option Spread) → Extends g h → (x : Fate) (s : Spread) → spread_by g x ≡ Some s → spread_by h x ≡ Some s
by_extends g h more Vanishes s e = e
by_extends g h more Untold s e = absurd (none_some s e)
by_extends g h more (Comes leaves sent) s e =
    let b = both_are (Some leaves) (g sent) s e in
    ap₂ beside b.first_is (more sent b.second b.second_is) ∙ ap Some (sym b.all_is)

one_more : (nodes : List (Option NodeRecord)) (n : ℕ) → Extends (λ f. spread_in nodes n f) (λ f. spread_in nodes (suc n) f)
one_more nodes zero f s e = by_extends (λ fs. None) (spread_all (λ g. spread_in nodes zero g)) (λ fs t i. absurd (none_some t i)) (fate nodes f) s e
one_more nodes (suc n) f s e =
    by_extends (spread_all (λ g. spread_in nodes n g)) (spread_all (λ g. spread_in nodes (suc n) g))
    (all_extends (λ g. spread_in nodes n g) (λ g. spread_in nodes (suc n) g) (λ g t i. one_more nodes n g t i)) (fate nodes f) s e

pub some_more : (nodes : List (Option NodeRecord)) (n k : ℕ) → Extends (λ f. spread_in nodes n f) (λ f. spread_in nodes (k + n) f)
some_more nodes n zero f s e = let p : n ≡ 0 + n = omega arith in subst (λ (m : ℕ). spread_in nodes m f ≡ Some s) p e
some_more nodes n (suc k) f s e =
    let p : suc (k + n) ≡ suc k + n = omega arith in subst (λ (m : ℕ). spread_in nodes m f ≡ Some s) p (one_more nodes (k + n) f s (some_more nodes n k f s e))

pub more_visits : (nodes : List (Option NodeRecord)) (n m : ℕ) → n ≤ m → Extends (λ f. spread_in nodes n f) (λ f. spread_in nodes m f)
more_visits nodes n m le f s e = let p : (m - n) + n ≡ m = omega arith in subst (λ (x : ℕ). spread_in nodes x f ≡ Some s) p (some_more nodes n (m - n) f s e)

pub fuel : Fuel
fuel w f n m s le e = more_visits w.nodes n m le f s e
