-- Names: the bytes of one, whether two are the same, and lists of names.
use Rattle.std.proofs.Common.{rules, ◌≡◌, ◌≤◌, ℕ, ◌+◌, Bool, true, false, not, ◌==◌, nat_lt, if◌then◌else◌, List, [], ◌∷◌, ◌++◌, length, position, is_none, Option, Some, None, refl, sym, ap, ◌∙◌, subst, inl, inr, arith, true≢false}
use Rattle.std.specs.List.{list_any, position_from, AllByRecursion}
use Rattle.std.specs.Option.{option_map}
use Rattle.std.specs.Str.{bytes_eq}
use Rattle.std.proofs.lemmas.Bool.{cases_Bool}
use Rattle.std.proofs.lemmas.Grind.{common_steps}
use Rattle.std.proofs.lemmas.Iterator.Adapters.{position_from-zero}
use Rattle.ng_base.specs.declared.name.NameFault.{NameFault}
use Rattle.ng_base.specs.declared.name.NameFault.TheVariants.{Empty, TooLong, BadByte}
use Rattle.ng_base.specs.Name.{is_name_byte, name_fault, is_name, IsName}
use Rattle.ng_base.specs.Names.{has_name, without_name}

-- ---- one name

no_bad_byte : (empty long : Bool) (p q : NameFault) (place : Option ℕ)
    → (if empty then Some p else if long then Some q else option_map (λ (n : ℕ). BadByte n) place) ≡ None
    → place ≡ None
no_bad_byte true long p q place h = cc h
no_bad_byte false true p q place h = cc h
no_bad_byte false false p q None h = refl
no_bad_byte false false p q (Some n) h = cc h

each_from : (P : ℕ → Type 0) → ((b : ℕ) → is_name_byte b ≡ true → P b) → (i : ℕ) (bytes : List ℕ)
    → position_from (λ b. not (is_name_byte b)) i bytes ≡ None → AllByRecursion P bytes
each_from P holds i [] h = tt
each_from P holds i (b ∷ bytes) h = elim (cases_Bool (is_name_byte b)) [
  | inl good ↦ (holds b good, each_from P holds (i + 1) bytes (rw good at h))
  | inr bad ↦ let same : Some i ≡ None = rw bad at h in absurd (cc same)
]

-- what holds of every byte that names may have holds of each byte of a name
pub each_name_byte : (P : ℕ → Type 0) → ((b : ℕ) → is_name_byte b ≡ true → P b) → (name : List ℕ) → IsName name → AllByRecursion P name
each_name_byte P holds name named =
    let bad : Option ℕ = position (λ b. not (is_name_byte b)) name in
    let none : bad ≡ None = no_bad_byte (length name == 0) (nat_lt 31 (length name)) Empty (TooLong (length name)) bad named in
    each_from P holds 0 name (sym (position_from-zero (λ b. not (is_name_byte b)) name) ∙ none)

pub length-name : (name : List ℕ) → IsName name → length name ≤ 31
length-name name named = grind (arith, common_steps)

pub no_empty_name : IsName [] → ⊥
no_empty_name h = cc h

-- the test and the fact
pub name_passes : (bytes : List ℕ) → IsName bytes → is_name bytes ≡ true
name_passes bytes h = ap is_none h

pub passing_is_name : (bytes : List ℕ) → is_name bytes ≡ true → IsName bytes
passing_is_name bytes e = by (name_fault bytes) e
  where
    by : (fault : Option NameFault) → is_none fault ≡ true → fault ≡ None
    by None e = refl
    by (Some fault) e = absurd (true≢false (sym e))

-- ---- two names

pub same_name : (name : List ℕ) → bytes_eq name name ≡ true
same_name name = search (rules)

pub is_same : (a b : List ℕ) → bytes_eq a b ≡ true → a ≡ b
is_same a b e = search (rules)

pub differs_back : (a b : List ℕ) → bytes_eq a b ≡ false → bytes_eq b a ≡ false
differs_back a b e = elim (cases_Bool (bytes_eq b a)) [
  | inl is ↦ absurd (true≢false (sym (subst (λ (n : List ℕ). bytes_eq n b ≡ true) (is_same b a is) (same_name b)) ∙ e))
  | inr other ↦ other
]

-- ---- names in a list; `test` is a test of names

-- a name behind the others leaves what passes among them
pub any_added : (test : List ℕ → Bool) (names : List (List ℕ)) (name : List ℕ) → list_any test names ≡ true → list_any test (names ++ name ∷ []) ≡ true
any_added test [] name h = absurd (true≢false (sym h))
any_added test (other ∷ names) name h = elim (cases_Bool (test other)) [
  | inl is ↦ rw is refl
  | inr fails ↦ rw fails (any_added test names name (rw fails at h))
]

pub any_new : (test : List ℕ → Bool) (names : List (List ℕ)) (name : List ℕ) → test name ≡ true → list_any test (names ++ name ∷ []) ≡ true
any_new test [] name h = rw h refl
any_new test (other ∷ names) name h = elim (cases_Bool (test other)) [
  | inl is ↦ rw is refl
  | inr fails ↦ rw fails (any_new test names name h)
]

-- a name that passes stays where one that doesn't is removed
pub any_left : (test : List ℕ → Bool) (names : List (List ℕ)) (gone : List ℕ) → list_any test names ≡ true
    → test gone ≡ false → list_any test (without_name names gone) ≡ true
any_left test [] gone h no_gone = absurd (true≢false (sym h))
any_left test (name ∷ names) gone h no_gone = elim (cases_Bool (bytes_eq name gone)) [
  | inl is ↦
      let e : test name ≡ false = subst (λ (n : List ℕ). test n ≡ false) (sym (is_same name gone is)) no_gone in
      rw is (any_left test names gone (rw e at h) no_gone)
  | inr other ↦ rw other (elim (cases_Bool (test name)) [
    | inl is ↦ rw is refl
    | inr fails ↦ rw fails (any_left test names gone (rw fails at h) no_gone)
  ])
]

pub has_name-added : (names : List (List ℕ)) (added name : List ℕ) → has_name names name ≡ true → has_name (names ++ added ∷ []) name ≡ true
has_name-added names added name there = any_added (λ other. bytes_eq other name) names added there

pub has_name-new : (names : List (List ℕ)) (name : List ℕ) → has_name (names ++ name ∷ []) name ≡ true
has_name-new names name = any_new (λ other. bytes_eq other name) names name (same_name name)

pub has_name-left : (names : List (List ℕ)) (gone name : List ℕ) → has_name names name ≡ true
    → not (bytes_eq name gone) ≡ true → has_name (without_name names gone) name ≡ true
has_name-left names gone name there other = any_left (λ x. bytes_eq x name) names gone there (differs_back name gone (turned (bytes_eq name gone) other))
  where
    turned : (b : Bool) → not b ≡ true → b ≡ false
    turned false e = refl
    turned true e = absurd (true≢false (sym e))

-- a name that is there is not one that isn't
pub differs : (names : List (List ℕ)) (name lacking : List ℕ) → has_name names lacking ≡ false
    → has_name names name ≡ true → not (bytes_eq name lacking) ≡ true
differs names name lacking lacks there = elim (cases_Bool (bytes_eq name lacking)) [
  | inl is ↦ absurd (true≢false (sym (subst (λ (n : List ℕ). has_name names n ≡ true) (is_same name lacking is) there) ∙ lacks))
  | inr other ↦ ap not other
]

-- a name that is added to names which lack it, and removed again, leaves them as they were
pub without_name-added : (names : List (List ℕ)) (name : List ℕ) → has_name names name ≡ false → without_name (names ++ name ∷ []) name ≡ names
without_name-added [] name h = rw (same_name name) refl
without_name-added (other ∷ names) name h = elim (cases_Bool (bytes_eq other name)) [
  | inl is ↦ let contrary : true ≡ false = rw is at h in absurd (true≢false contrary)
  | inr apart ↦ rw apart (ap (λ (l : List (List ℕ)). other ∷ l) (without_name-added names name (rw apart at h)))
]
