-- The names of hooks that the type takes.
use Rattle.std.proofs.Common.{◌≡◌, ℕ, zero, suc, ◌<◌, Bool, true, false, ◌||◌, List, ◌++◌, codes, refl, ap, ◌∙◌, arith, inl, inr}
use Rattle.std.specs.Str.{bytes_eq}
use Rattle.std.proofs.lemmas.Bool.{cases_Bool, cases_lt}
use Rattle.ng_base.specs.declared.kind.Kind.TheVariants.{One2many as OfMany}
use Rattle.ng_machine.specs.Names.{digits, is_numbered, one}
use Rattle.ng_machine.specs.kinds.One2many.{many}
use Rattle.ng_machine.specs.Rules.{accepts_hook}

pub numbered : (stem : List ℕ) (n k : ℕ) (hook : List ℕ) → k < n → bytes_eq (stem ++ digits k) hook ≡ true → is_numbered stem n hook ≡ true
numbered stem zero k hook below is = absurd (omega arith)
numbered stem (suc n) k hook below is = elim (cases_lt k n) [
  | inl less ↦ elim (cases_Bool (bytes_eq (stem ++ digits n) hook)) [ inl same ↦ rw same refl | inr other ↦ rw other (numbered stem n k hook less is) ]
  | inr more ↦ let e : k ≡ n = omega arith in rw (← e) (rw is refl)
]

pub not_numbered : (stem : List ℕ) (n : ℕ) (hook : List ℕ) → ((k : ℕ) → k < n → bytes_eq (stem ++ digits k) hook ≡ false) → is_numbered stem n hook ≡ false
not_numbered stem zero hook none = refl
not_numbered stem (suc n) hook none = rw (none n (omega arith)) (not_numbered stem n hook (λ k less. none k (omega arith)))

or_true : (b : Bool) → (b || true) ≡ true
or_true true = refl
or_true false = refl

pub takes_many : (hook : List ℕ) (k : ℕ) → k < 64 → bytes_eq (many k) hook ≡ true → accepts_hook OfMany hook ≡ true
takes_many hook k less is = ap (λ (b : Bool). bytes_eq hook one || b) (numbered (codes "many") 64 k hook less is) ∙ or_true (bytes_eq hook one)

pub takes_none : (hook : List ℕ) → bytes_eq hook one ≡ false → ((k : ℕ) → k < 64 → bytes_eq (many k) hook ≡ false) → accepts_hook OfMany hook ≡ false
takes_none hook other none = ap (λ (b : Bool). b || is_numbered (codes "many") 64 hook) other ∙ not_numbered (codes "many") 64 hook none
