-- Hooks with numbers: at most one number stands behind a stem.
use Rattle.std.proofs.Common.{◌≡◌, ℕ, zero, suc, ◌+◌, ◌/◌, ◌%◌, ◌<◌, nat_lt, Bool, true, false, List, [], ◌∷◌, ◌++◌, Some, None, if◌then◌else◌, codes, unwrap_or, refl, sym, ap, ◌∙◌, arith, inl, inr, true≢false}
use Rattle.std.specs.Str.{bytes_eq}
use Rattle.std.proofs.lemmas.Bool.{cases_Bool, cases_lt}
use Rattle.std.proofs.lemmas.List.{append_cancel_left}
use Rattle.ng_base.proofs.NameLemmas.{is_same}
use Rattle.ng_machine.specs.kinds.Bridge.{link_hook, link_number, most_links}
use Rattle.ng_machine.specs.Names.{digits, number_behind}

same_digits : (p q : Bool) (n k : ℕ)
    → (if p then (48 + n) ∷ [] else (48 + n / 10) ∷ (48 + n % 10) ∷ []) ≡ (if q then (48 + k) ∷ [] else (48 + k / 10) ∷ (48 + k % 10) ∷ [])
    → n ≡ k
same_digits true true n k e = let same : 48 + n ≡ 48 + k = cc in omega arith
same_digits true false n k e = cc
same_digits false true n k e = cc
same_digits false false n k e =
    let tens : 48 + n / 10 ≡ 48 + k / 10 = cc in
    let ones : 48 + n % 10 ≡ 48 + k % 10 = cc in
    omega arith

-- two numbers with the same digits are the same
pub digits_back : (n k : ℕ) → digits n ≡ digits k → n ≡ k
digits_back n k e = same_digits (nat_lt n 10) (nat_lt k 10) n k e

-- a number that stands behind the stem is the number behind the stem
pub number_found : (stem : List ℕ) (n k : ℕ) (hook : List ℕ) → k < n → bytes_eq (stem ++ digits k) hook ≡ true → number_behind stem n hook ≡ Some k
number_found stem zero k hook below is = absurd (omega arith)
number_found stem (suc n) k hook below is = elim (cases_Bool (bytes_eq (stem ++ digits n) hook)) [
  | inl same ↦
      let e : n ≡ k = digits_back n k (append_cancel_left stem (digits n) (digits k) (is_same (stem ++ digits n) hook same ∙ sym (is_same (stem ++ digits k) hook is))) in
      rw same (rw e refl)
  | inr other ↦ elim (cases_lt k n) [
    | inl less ↦ rw other (number_found stem n k hook less is)
    | inr more ↦ let e : k ≡ n = omega arith in absurd (true≢false (sym (rw e at is) ∙ other))
  ]
]

-- where none of the numbers stands behind the stem there is none
pub number_missing : (stem : List ℕ) (n : ℕ) (hook : List ℕ) → ((k : ℕ) → k < n → bytes_eq (stem ++ digits k) hook ≡ false) → number_behind stem n hook ≡ None
number_missing stem zero hook none = refl
number_missing stem (suc n) hook none = rw (none n (omega arith)) (number_missing stem n hook (λ k less. none k (omega arith)))

pub link_missing : (hook : List ℕ) → ((k : ℕ) → k < most_links → bytes_eq (link_hook k) hook ≡ false) → most_links ≡ link_number hook
link_missing hook none = sym (ap (λ o. unwrap_or o most_links) (number_missing (codes "link") most_links hook none))

-- and a number whose hook the name is, is its number
pub link_found : (hook : List ℕ) (k : ℕ) → k < most_links → bytes_eq (link_hook k) hook ≡ true → k ≡ link_number hook
link_found hook k below is = sym (ap (λ o. unwrap_or o most_links) (number_found (codes "link") most_links k hook below is))
