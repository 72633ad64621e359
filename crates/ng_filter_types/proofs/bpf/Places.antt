-- The places of the hooks: what is found by them, and what a change of the hooks makes of them.
use Rattle.std.proofs.Common.{◌≡◌, ℕ, zero, suc, ◌+◌, ◌<◌, Bool, true, false, List, [], ◌∷◌, ◌++◌, length, map, get_or, set, remove, is_some, Option, Some, None, refl, sym, ap, ◌∙◌, subst, inl, inr, arith, true≢false}
use Rattle.std.specs.List.{position_from}
use Rattle.std.specs.Str.{bytes_eq}
use Rattle.std.proofs.lemmas.Bool.{cases_Bool}
use Rattle.ng_base.specs.Names.{has_name, without_name}
use Rattle.ng_base.proofs.NameLemmas.{differs_back, is_same}
use Rattle.ng_plan.specs.lookup.ByName.{CutsPlace, IsIndexed}
use Rattle.ng_plan.specs.lookup.NameMap.{AreDistinct, IsSame, Map, PutsUnder, under}
use Rattle.ng_plan.proofs.lookup.Cutting.{indexed_cut, kept_none}
use Rattle.ng_plan.proofs.lookup.Naming.{at_place, place_any, place_within}
use Rattle.ng_machine.specs.kinds.Bpf.{Filter, new_filter, at_filter, bpf_with_hook, bpf_without_hook, has_filter, is_of_hook}
use Rattle.ng_machine.specs.declared.plan.BpfWay.{BpfWay}
use Rattle.ng_filter_types.proofs.bpf.Lists.{hooks_with, hooks_without, named}
use Rattle.ng_filter_types.specs.bpf.Filters.{ArePlaced, hooks_of}

-- ---- finding

no_place : (o : Option ℕ) → is_some o ≡ false → o ≡ None
no_place None none = refl
no_place (Some place) none = absurd (true≢false none)

-- a hook that isn't there has no place
pub has_no_place : (s : List Filter) (m : Map ℕ) (hook : List ℕ) → ArePlaced s m → has_filter s hook ≡ false → under m hook ≡ None
has_no_place s m hook placed lacks =
    placed.indexed hook ∙ no_place (position_from (is_of_hook hook) 0 s) (place_any (is_of_hook hook) 0 s ∙ lacks)

pub place_of : (s : List Filter) (m : Map ℕ) (hook : List ℕ) (place : ℕ) → ArePlaced s m → Some place ≡ under m hook → position_from (is_of_hook hook) 0 s ≡ Some place
place_of s m hook place placed at = sym (placed.indexed hook) ∙ sym at

pub no_place_of : (s : List Filter) (m : Map ℕ) (hook : List ℕ) → ArePlaced s m → None ≡ under m hook → position_from (is_of_hook hook) 0 s ≡ None
no_place_of s m hook placed none = sym (placed.indexed hook) ∙ sym none

-- the places are those of the names
places_of_names : (name : List ℕ) (i : ℕ) (s : List Filter) → position_from (is_of_hook name) i s ≡ position_from (λ (n : List ℕ). bytes_eq n name) i (hooks_of s)
places_of_names name i [] = refl
places_of_names name i (f ∷ s) = elim (cases_Bool (bytes_eq f.way.hook name)) [
  | inl is ↦ rw is refl
  | inr other ↦ rw other (places_of_names name (i + 1) s)
]

places_of_ways : (name : List ℕ) (i : ℕ) (s : List Filter)
    → position_from (is_of_hook name) i s ≡ position_from (λ (w : BpfWay). bytes_eq w.hook name) i (map (λ (f : Filter). f.way) s)
places_of_ways name i [] = refl
places_of_ways name i (f ∷ s) = elim (cases_Bool (bytes_eq f.way.hook name)) [
  | inl is ↦ rw is refl
  | inr other ↦ rw other (places_of_ways name (i + 1) s)
]

-- the places of a copy are those of what a plan holds
pub ways_placed : (s : List Filter) (m n : Map ℕ) (ways : List BpfWay) → ArePlaced s m → IsSame m n → ways ≡ map (λ (f : Filter). f.way) s
    → IsIndexed (λ (w : BpfWay). w.hook) ways n
ways_placed s m n ways placed same are = λ name.
    same name
    ∙ placed.indexed name
    ∙ places_of_ways name 0 s
    ∙ ap (λ (ws : List BpfWay). position_from (λ (w : BpfWay). bytes_eq w.hook name) 0 ws) (sym are)

pub same_places : (s : List Filter) (m n : Map ℕ) → ArePlaced s m → IsSame m n → ArePlaced s n
same_places s m n placed same = record { distinct = placed.distinct; indexed = λ name. same name ∙ placed.indexed name }

-- ---- one is made

place_behind : {X : Type 0} (test : X → Bool) (i place : ℕ) (xs : List X) (x : X) → place ≡ i + length xs → position_from test i xs ≡ None → test x ≡ true
    → position_from test i (xs ++ x ∷ []) ≡ Some place
place_behind test i place [] x is none here = rw here (ap Some (omega arith))
place_behind test i place (y ∷ xs) x is none here = elim (cases_Bool (test y)) [
  | inl this ↦ let contrary : Some i ≡ None = rw this at none in absurd (cc contrary)
  | inr other ↦ rw other (place_behind test (i + 1) place xs x (omega arith) (rw other at none) here)
]

place_before : {X : Type 0} (test : X → Bool) (i : ℕ) (xs : List X) (x : X) → test x ≡ false → position_from test i (xs ++ x ∷ []) ≡ position_from test i xs
place_before test i [] x fails = rw fails refl
place_before test i (y ∷ xs) x fails = elim (cases_Bool (test y)) [
  | inl this ↦ rw this refl
  | inr other ↦ rw other (place_before test (i + 1) xs x fails)
]

lacks_more : (names : List (List ℕ)) (name other : List ℕ) → has_name names other ≡ false → bytes_eq name other ≡ false → has_name (names ++ name ∷ []) other ≡ false
lacks_more [] name other lacks apart = rw apart refl
lacks_more (first ∷ names) name other lacks apart = elim (cases_Bool (bytes_eq first other)) [
  | inl is ↦ absurd (true≢false (rw is at lacks))
  | inr differs ↦ rw differs (lacks_more names name other (rw differs at lacks) apart)
]

distinct_added : (names : List (List ℕ)) (name : List ℕ) → AreDistinct names → has_name names name ≡ false → AreDistinct (names ++ name ∷ [])
distinct_added [] name distinct lacks = (refl, tt)
distinct_added (first ∷ names) name distinct lacks = elim (cases_Bool (bytes_eq first name)) [
  | inl is ↦ absurd (true≢false (rw is at lacks))
  | inr differs ↦ (lacks_more names name first distinct.0 (differs_back first name differs), distinct_added names name distinct.1 (rw differs at lacks))
]

pub added : (s : List Filter) (m n : Map ℕ) (hook : List ℕ) → ArePlaced s m → has_filter s hook ≡ false → PutsUnder m hook (length s) n
    → ArePlaced (bpf_with_hook s hook) n
added s m n hook placed lacks puts = record {
  distinct = subst (λ (names : List (List ℕ)). AreDistinct names) (sym (hooks_with s hook)) (distinct_added (hooks_of s) hook placed.distinct (named s hook ∙ lacks));
  indexed = λ name. puts name ∙ elim (cases_Bool (bytes_eq hook name)) [
    | inl is ↦
        let none : position_from (is_of_hook name) 0 s ≡ None =
        subst (λ (n : List ℕ). position_from (is_of_hook n) 0 s ≡ None) (is_same hook name is) (sym (placed.indexed hook) ∙ has_no_place s m hook placed lacks) in
        rw is (sym (place_behind (is_of_hook name) 0 (length s) s (new_filter hook) (omega arith) none is))
    | inr apart ↦ rw apart (placed.indexed name ∙ sym (place_before (is_of_hook name) 0 s (new_filter hook) apart))
  ];
}

-- ---- one is cut

lacks_kept : (names : List (List ℕ)) (gone other : List ℕ) → has_name names other ≡ false → has_name (without_name names gone) other ≡ false
lacks_kept [] gone other lacks = refl
lacks_kept (first ∷ names) gone other lacks = elim (cases_Bool (bytes_eq first other)) [
  | inl is ↦ absurd (true≢false (rw is at lacks))
  | inr differs ↦
      let rest : has_name (without_name names gone) other ≡ false = lacks_kept names gone other (rw differs at lacks) in
      elim (cases_Bool (bytes_eq first gone)) [
        | inl here ↦ rw here rest
        | inr kept ↦ rw kept (rw differs rest)
      ]
]

distinct_kept : (names : List (List ℕ)) (gone : List ℕ) → AreDistinct names → AreDistinct (without_name names gone)
distinct_kept [] gone distinct = tt
distinct_kept (first ∷ names) gone distinct = elim (cases_Bool (bytes_eq first gone)) [
  | inl here ↦ rw here (distinct_kept names gone distinct.1)
  | inr kept ↦ rw kept (lacks_kept names gone first distinct.0, distinct_kept names gone distinct.1)
]

without_none : (s : List Filter) (hook : List ℕ) → has_name (hooks_of s) hook ≡ false → bpf_without_hook s hook ≡ s
without_none [] hook lacks = refl
without_none (f ∷ s) hook lacks = elim (cases_Bool (bytes_eq f.way.hook hook)) [
  | inl is ↦ absurd (true≢false (rw is at lacks))
  | inr differs ↦ rw differs (ap (λ rest. f ∷ rest) (without_none s hook (rw differs at lacks)))
]

removed_at : (s : List Filter) (hook : List ℕ) (i k place : ℕ) → AreDistinct (hooks_of s) → position_from (is_of_hook hook) i s ≡ Some place → place ≡ i + k
    → remove s k ≡ bpf_without_hook s hook
removed_at [] hook i k place distinct at is = absurd (cc at)
removed_at (f ∷ s) hook i zero place distinct at is = elim (cases_Bool (bytes_eq f.way.hook hook)) [
  | inl here ↦
      let lacks : has_name (hooks_of s) hook ≡ false = subst (λ (n : List ℕ). has_name (hooks_of s) n ≡ false) (is_same f.way.hook hook here) distinct.0 in
      rw here (sym (without_none s hook lacks))
  | inr other ↦
      let rest = at_place (is_of_hook hook) (i + 1) s place (rw other at at) in
      let equal : place ≡ i + 1 + rest.0 = rest.1 in
      absurd (omega arith)
]
removed_at (f ∷ s) hook i (suc k) place distinct at is = elim (cases_Bool (bytes_eq f.way.hook hook)) [
  | inl here ↦
      let same : Some i ≡ Some place = rw here at at in
      let equal : i ≡ place = cc in
      absurd (omega arith)
  | inr other ↦ rw other (ap (λ rest. f ∷ rest) (removed_at s hook (i + 1) k place distinct.1 (rw other at at) (omega arith)))
]

pub removed : (s : List Filter) (m : Map ℕ) (hook : List ℕ) (place : ℕ) → ArePlaced s m → Some place ≡ under m hook → remove s place ≡ bpf_without_hook s hook
removed s m hook place placed at = removed_at s hook 0 place place placed.distinct (place_of s m hook place placed at) (omega arith)

pub kept : (s : List Filter) (m : Map ℕ) (hook : List ℕ) → ArePlaced s m → None ≡ under m hook → s ≡ bpf_without_hook s hook
kept s m hook placed none = sym (kept_none (is_of_hook hook) 0 s (no_place_of s m hook placed none))

pub cut : (s : List Filter) (m n : Map ℕ) (hook : List ℕ) (place : ℕ) → ArePlaced s m → Some place ≡ under m hook → CutsPlace m hook place n → ArePlaced (remove s place) n
cut s m n hook place placed at cuts =
    let same = removed s m hook place placed at in
    subst (λ (rest : List Filter). ArePlaced rest n) (sym same) (record {
      distinct = subst (λ (names : List (List ℕ)). AreDistinct names) (sym (hooks_without s hook)) (distinct_kept (hooks_of s) hook placed.distinct);
      indexed = indexed_cut (λ (f : Filter). f.way.hook) s place hook m n placed.indexed (sym at) same cuts;
    })

-- ---- one is changed

change_none : (s : List Filter) (hook : List ℕ) (change : Filter → Filter) → has_name (hooks_of s) hook ≡ false → at_filter hook change s ≡ s
change_none [] hook change lacks = refl
change_none (f ∷ s) hook change lacks = elim (cases_Bool (bytes_eq f.way.hook hook)) [
  | inl is ↦ absurd (true≢false (rw is at lacks))
  | inr differs ↦ rw differs (ap (λ rest. f ∷ rest) (change_none s hook change (rw differs at lacks)))
]

changed_at : (s : List Filter) (hook : List ℕ) (change : Filter → Filter) (i k place : ℕ) (old new : Filter) → AreDistinct (hooks_of s)
    → position_from (is_of_hook hook) i s ≡ Some place → place ≡ i + k → old ≡ get_or s k old → new ≡ change old → set s k new ≡ at_filter hook change s
changed_at [] hook change i k place old new distinct at is was made = absurd (cc at)
changed_at (f ∷ s) hook change i zero place old new distinct at is was made = elim (cases_Bool (bytes_eq f.way.hook hook)) [
  | inl here ↦
      let lacks : has_name (hooks_of s) hook ≡ false = subst (λ (n : List ℕ). has_name (hooks_of s) n ≡ false) (is_same f.way.hook hook here) distinct.0 in
      rw here (ap (λ g. g ∷ s) (made ∙ ap change was) ∙ ap (λ rest. change f ∷ rest) (sym (change_none s hook change lacks)))
  | inr other ↦
      let rest = at_place (is_of_hook hook) (i + 1) s place (rw other at at) in
      let equal : place ≡ i + 1 + rest.0 = rest.1 in
      absurd (omega arith)
]
changed_at (f ∷ s) hook change i (suc k) place old new distinct at is was made = elim (cases_Bool (bytes_eq f.way.hook hook)) [
  | inl here ↦
      let same : Some i ≡ Some place = rw here at at in
      let equal : i ≡ place = cc in
      absurd (omega arith)
  | inr other ↦ rw other (ap (λ rest. f ∷ rest) (changed_at s hook change (i + 1) k place old new distinct.1 (rw other at at) (omega arith) was made))
]

pub changed : (s : List Filter) (m : Map ℕ) (hook : List ℕ) (change : Filter → Filter) (place : ℕ) (old new : Filter) → ArePlaced s m → Some place ≡ under m hook
    → old ≡ get_or s place old → new ≡ change old → set s place new ≡ at_filter hook change s
changed s m hook change place old new placed at was made =
    changed_at s hook change 0 place place old new placed.distinct (place_of s m hook place placed at) (omega arith) was made

-- where there is no such hook nothing changes
pub unchanged : (s : List Filter) (m : Map ℕ) (hook : List ℕ) (change : Filter → Filter) → ArePlaced s m → None ≡ under m hook → s ≡ at_filter hook change s
unchanged s m hook change placed none =
    let lacks : has_name (hooks_of s) hook ≡ false =
    named s hook ∙ sym (place_any (is_of_hook hook) 0 s) ∙ ap is_some (no_place_of s m hook placed none) in
    sym (change_none s hook change lacks)

-- the names stay, where the change keeps that of the hook
abbrev pub Keeps : List ℕ → (Filter → Filter) → Type 0
Keeps hook change = (f : Filter) → f.way.hook ≡ hook → (change f).way.hook ≡ hook

pub hooks_stay : (s : List Filter) (hook : List ℕ) (change : Filter → Filter) → Keeps hook change → hooks_of (at_filter hook change s) ≡ hooks_of s
hooks_stay [] hook change keeps = refl
hooks_stay (f ∷ s) hook change keeps = elim (cases_Bool (bytes_eq f.way.hook hook)) [
  | inl here ↦
      let e : f.way.hook ≡ hook = is_same f.way.hook hook here in
      rw here (ap (λ name. name ∷ hooks_of (at_filter hook change s)) (keeps f e ∙ sym e) ∙ ap (λ names. f.way.hook ∷ names) (hooks_stay s hook change keeps))
  | inr other ↦ rw other (ap (λ names. f.way.hook ∷ names) (hooks_stay s hook change keeps))
]

-- the places are those of the same names
pub stay_placed : (s t : List Filter) (m : Map ℕ) → hooks_of t ≡ hooks_of s → ArePlaced s m → ArePlaced t m
stay_placed s t m same placed = record {
  distinct = subst (λ (names : List (List ℕ)). AreDistinct names) (sym same) placed.distinct;
  indexed = λ name.
      placed.indexed name
      ∙ places_of_names name 0 s
      ∙ ap (λ (names : List (List ℕ)). position_from (λ (n : List ℕ). bytes_eq n name) 0 names) (sym same)
      ∙ sym (places_of_names name 0 t);
}

pub changed_places : (s : List Filter) (m : Map ℕ) (hook : List ℕ) (change : Filter → Filter) (place : ℕ) (old new : Filter) → ArePlaced s m → Some place ≡ under m hook
    → old ≡ get_or s place old → new ≡ change old → Keeps hook change → ArePlaced (set s place new) m
changed_places s m hook change place old new placed at was made keeps =
    stay_placed s (set s place new) m (ap hooks_of (changed s m hook change place old new placed at was made) ∙ hooks_stay s hook change keeps) placed

-- the place of a hook is that of one
pub within : (s : List Filter) (m : Map ℕ) (hook : List ℕ) (place : ℕ) → ArePlaced s m → Some place ≡ under m hook → place < length s
within s m hook place placed at = place_within (is_of_hook hook) s place (place_of s m hook place placed at)
