-- The first of a kind among things that have kinds, and boxes of which one gets a hook.
use Rattle.std.proofs.Common.{◌≡◌, ℕ, zero, suc, ◌+◌, ◌<◌, true, false, List, [], ◌∷◌, length, map, get_or, set, Option, Some, None, IfSome, IfNone, refl, ap, sym, subst, ◌∙◌, inl, inr, arith}
use Rattle.std.specs.List.{position_from}
use Rattle.std.proofs.lemmas.Bool.{cases_Bool}
use Rattle.std.proofs.lemmas.Bool.Decides.{Decides-eqb}
use Rattle.ng_base.specs.declared.kind.Kind.{Kind}
use Rattle.ng_base.specs.declared.kind.Kind.TheVariants.{Hub, Hole, Echo, Tee, Split, One2many, Bridge, Vlan, Patch, Bpf, Ether, Socket, Etf, Macset}
use Rattle.ng_base.specs.Kind.{kinds, kind_number, same_kind}
use Rattle.std.proofs.lemmas.List.{length-map}
use Rattle.ng_machine.specs.Stock.{has_kind, without_kind}
use Rattle.std.proofs.lemmas.Grind.{common_steps}
use Rattle.std.specs.Prelude.{All, remove}
use Rattle.ng_machine.specs.State.{State, kind_of, blank_of, kind_of_kept, blank_kept}
use Rattle.ng_topology.specs.FirstOfKind.{IsFirstOf}

-- a kind is known by its number
numbered : (kind : Kind) → get_or kinds (kind_number kind) Socket ≡ kind
numbered Hub = refl
numbered Hole = refl
numbered Echo = refl
numbered Tee = refl
numbered Split = refl
numbered One2many = refl
numbered Bridge = refl
numbered Vlan = refl
numbered Patch = refl
numbered Bpf = refl
numbered Ether = refl
numbered Socket = refl
numbered Etf = refl
numbered Macset = refl

pub same_kind_is : (a b : Kind) → same_kind a b ≡ true → a ≡ b
same_kind_is a b h =
    let same : kind_number a ≡ kind_number b = (Decides-eqb (kind_number a) (kind_number b)).0 h in
    sym (numbered a) ∙ ap (λ (n : ℕ). get_or kinds n Socket) same ∙ numbered b

module _ {X : Type 0} (f : X → Kind) (kind : Kind) where
  here : (x : X) (xs : List X) → same_kind (f x) kind ≡ true → IsFirstOf f (x ∷ xs) kind 0
  here x xs is = record {
    inside = omega arith;
    is_kind = λ d. same_kind_is (f x) kind is;
    there = rw is refl;
    rest = rw is refl;
    fewer = let as_many : length (map f xs) ≡ length xs = length-map xs f in rw is (omega arith);
  }

  further : (x : X) (xs : List X) (i : ℕ) → same_kind (f x) kind ≡ false → IsFirstOf f xs kind i → IsFirstOf f (x ∷ xs) kind (suc i)
  further x xs i other place = record {
    inside = let below : i < length xs = place.inside in omega arith;
    is_kind = λ d. place.is_kind d;
    there = rw other place.there;
    rest = rw other (ap (λ (l : List Kind). f x ∷ l) place.rest);
    fewer = let less : length (without_kind (map f xs) kind) + 1 ≡ length xs = place.fewer in rw other (omega arith);
  }

  place_from : (xs : List X) (j i : ℕ) → position_from (λ x. same_kind (f x) kind) j xs ≡ Some i → (k : ℕ) × (i ≡ j + k) × IsFirstOf f xs kind k
  place_from [] j i at = absurd (cc at)
  place_from (x ∷ xs) j i at = elim (cases_Bool (same_kind (f x) kind)) [
    | inl is ↦ let same : Some j ≡ Some i = rw is at at in let equal : j ≡ i = cc in (0, omega arith, here x xs is)
    | inr other ↦ let rest = place_from xs (j + 1) i (rw other at at) in let equal : i ≡ j + 1 + rest.0 = rest.1 in (suc (rest.0), omega arith, further x xs (rest.0) other rest.2)
  ]

  no_place : (xs : List X) (j : ℕ) → position_from (λ x. same_kind (f x) kind) j xs ≡ None → has_kind (map f xs) kind ≡ false
  no_place [] j at = refl
  no_place (x ∷ xs) j at = elim (cases_Bool (same_kind (f x) kind)) [
    | inl is ↦ let same : Some j ≡ None = rw is at at in absurd (cc same)
    | inr other ↦ rw other (no_place xs (j + 1) (rw other at at))
  ]

  pub place_if_some : (xs : List X) (o : Option ℕ) → o ≡ position_from (λ x. same_kind (f x) kind) 0 xs → IfSome o (IsFirstOf f xs kind)
  place_if_some xs None is = tt
  place_if_some xs (Some i) is =
      let k = place_from xs 0 i (sym is) in
      let same : k.0 ≡ i = let e : i ≡ 0 + k.0 = k.1 in omega arith in
      subst (λ (n : ℕ). IsFirstOf f xs kind n) same k.2

  pub place_if_none : (xs : List X) (o : Option ℕ) → o ≡ position_from (λ x. same_kind (f x) kind) 0 xs → IfNone o (has_kind (map f xs) kind ≡ false)
  place_if_none xs None is = no_place xs 0 (sym is)
  place_if_none xs (Some i) is = tt

-- a blank node is of its kind
pub blank_kind : (kind : Kind) → kind_of_kept (blank_kept kind) ≡ kind
blank_kind Hub = refl
blank_kind Hole = refl
blank_kind Echo = refl
blank_kind Tee = refl
blank_kind Split = refl
blank_kind One2many = refl
blank_kind Bridge = refl
blank_kind Vlan = refl
blank_kind Patch = refl
blank_kind Bpf = refl
blank_kind Ether = refl
blank_kind Socket = refl
blank_kind Etf = refl
blank_kind Macset = refl

-- A box in its place is replaced by one of the same state.
module _ {X : Type 0} (state : X → State) where
  pub all_blank : (xs : List X) (i : ℕ) (x : X) (kind : Kind) → All (λ y. state y ≡ blank_of (kind_of (state y))) xs → i < length xs → x ≡ get_or xs i x → kind_of (state x) ≡ kind → state x ≡ blank_of kind
  all_blank xs i x kind all below is same =
      let blank : state x ≡ blank_of (kind_of (state x)) = grind (arith, common_steps) in
      blank ∙ ap blank_of same

  pub kinds_kept : (xs : List X) (i : ℕ) (x d : X) → state x ≡ state (get_or xs i d) → i < length xs → map (λ y. kind_of (state y)) (set xs i x) ≡ map (λ y. kind_of (state y)) xs
  kinds_kept [] i x d same below = refl
  kinds_kept (y ∷ xs) zero x d same below = ap (λ (s : State). kind_of s ∷ map (λ z. kind_of (state z)) xs) same
  kinds_kept (y ∷ xs) (suc i) x d same below = ap (λ (l : List Kind). kind_of (state y) ∷ l) (kinds_kept xs i x d same (omega arith))

-- a box that is replaced and then taken out
pub remove_set : {X : Type 0} (xs : List X) (i : ℕ) (x : X) → remove (set xs i x) i ≡ remove xs i
remove_set [] i x = refl
remove_set (y ∷ xs) zero x = refl
remove_set {X = X} (y ∷ xs) (suc i) x = ap (λ (l : List X). y ∷ l) (remove_set xs i x)
