-- Hooks of different names: the place of a name, and what a change at that place comes to.
use Rattle.std.proofs.Common.{◌≡◌, ℕ, zero, suc, ◌+◌, ◌<◌, Bool, true, false, cond, ◌==◌, List, [], ◌∷◌, ◌++◌, length, map, find, set, get_or, is_some, Option, Some, None, refl, sym, ap, subst, ◌∙◌, inl, inr, arith}
use Rattle.std.specs.Prelude.{remove, IsSome}
use Rattle.std.specs.List.{position_from}
use Rattle.std.specs.BTreeMap.{BTreeMap, get, Updates}
use Rattle.std.specs.Cmp.Lexicographic.{slice_cmp}
use Rattle.std.specs.Ordering.{nat_cmp, is_eq}
use Rattle.std.specs.Option.{option_map}
use Rattle.std.specs.Str.{bytes_eq}
use Rattle.std.proofs.lemmas.Map.Text.{is_eq-slice_cmp}
use Rattle.std.proofs.lemmas.Bool.{cases_Bool}
use Rattle.std.proofs.lemmas.Slice.Eq.{bytes_eq-Decides}
use Rattle.ng_base.specs.declared.ids.LinkId.{LinkId}
use Rattle.ng_machine.specs.declared.hook.Hook.{Hook}
use Rattle.ng_machine.specs.World.{is_named, change_hook}
use Rattle.ng_topology.specs.hooks.Hooks.{NamesDiffer, IsIndexed, AreConsistent, is_linked, without_named}

-- THE PLACE OF A NAME

pub record IsPlace (name : List ℕ) (hooks : List Hook) (k : ℕ) : Type 0 where
  pub inside : k < length hooks
  pub found : (d : Hook) → find (is_named name) hooks ≡ Some (get_or hooks k d)
  pub named : (d : Hook) → is_named name (get_or hooks k d) ≡ true

at_head : (name : List ℕ) (hook : Hook) (hooks : List Hook) → is_named name hook ≡ true → IsPlace name (hook ∷ hooks) 0
at_head name hook hooks is = record { inside = omega arith; found = λ d. rw is refl; named = λ d. is }

further : (name : List ℕ) (hook : Hook) (hooks : List Hook) (k : ℕ) → is_named name hook ≡ false → IsPlace name hooks k → IsPlace name (hook ∷ hooks) (suc k)
further name hook hooks k other place = record {
  inside = let below : k < length hooks = place.inside in omega arith;
  found = λ d. rw other (place.found d);
  named = λ d. place.named d;
}

place_from : (name : List ℕ) (hooks : List Hook) (j i : ℕ) → position_from (is_named name) j hooks ≡ Some i → (k : ℕ) × (i ≡ j + k) × IsPlace name hooks k
place_from name [] j i at = absurd (cc at)
place_from name (hook ∷ hooks) j i at = elim (cases_Bool (is_named name hook)) [
  | inl is ↦ let same : Some j ≡ Some i = rw is at at in let equal : j ≡ i = cc in (0, omega arith, at_head name hook hooks is)
  | inr other ↦ let rest = place_from name hooks (j + 1) i (rw other at at) in let equal : i ≡ j + 1 + rest.0 = rest.1 in (suc (rest.0), omega arith, further name hook hooks (rest.0) other rest.2)
]

pub place : (name : List ℕ) (hooks : List Hook) (i : ℕ) → position_from (is_named name) 0 hooks ≡ Some i → IsPlace name hooks i
place name hooks i at =
    let p = place_from name hooks 0 i at in
    let same : p.0 ≡ i = let e : i ≡ 0 + p.0 = p.1 in omega arith in
    subst (λ (k : ℕ). IsPlace name hooks k) same p.2

no_place_from : (name : List ℕ) (hooks : List Hook) (j : ℕ) → position_from (is_named name) j hooks ≡ None → find (is_named name) hooks ≡ None
no_place_from name [] j at = refl
no_place_from name (hook ∷ hooks) j at = elim (cases_Bool (is_named name hook)) [
  | inl is ↦ let same : Some j ≡ None = rw is at at in absurd (cc same)
  | inr other ↦ rw other (no_place_from name hooks (j + 1) (rw other at at))
]

pub found_inside : (name : List ℕ) (hooks : List Hook) (i : ℕ) → position_from (is_named name) 0 hooks ≡ Some i → i < length hooks
found_inside name hooks i at = (place name hooks i at).inside

pub found : (name : List ℕ) (hooks : List Hook) (i : ℕ) (d : Hook) → position_from (is_named name) 0 hooks ≡ Some i → find (is_named name) hooks ≡ Some (get_or hooks i d)
found name hooks i d at = (place name hooks i at).found d

pub not_found : (name : List ℕ) (hooks : List Hook) → position_from (is_named name) 0 hooks ≡ None → find (is_named name) hooks ≡ None
not_found name hooks at = no_place_from name hooks 0 at

-- NAMES

same_names : (a b : List ℕ) → bytes_eq a b ≡ true → a ≡ b
same_names a b is = (bytes_eq-Decides a b).0 is

pub own_name : (a : List ℕ) → bytes_eq a a ≡ true
own_name a = (bytes_eq-Decides a a).1 refl

-- no other has the name of the first
no_other : (name : List ℕ) (hook : Hook) (hooks : List Hook) → NamesDiffer (hook ∷ hooks) → is_named name hook ≡ true → find (is_named name) hooks ≡ None
no_other name hook hooks differ is = let same : hook.name ≡ name = same_names hook.name name is in rw (← same) differ.0

-- a list that lacks the name

pub lacks_filter : (name : List ℕ) (hooks : List Hook) → find (is_named name) hooks ≡ None → without_named name hooks ≡ hooks
lacks_filter name [] none = refl
lacks_filter name (hook ∷ hooks) none = elim (cases_Bool (is_named name hook)) [
  | inl is ↦ let same : Some hook ≡ None = rw is at none in absurd (cc same)
  | inr other ↦ rw other (ap (λ (l : List Hook). hook ∷ l) (lacks_filter name hooks (rw other at none)))
]

lacks_map : (name : List ℕ) (f : Hook → Hook) (hooks : List Hook) → find (is_named name) hooks ≡ None → map (change_hook name f) hooks ≡ hooks
lacks_map name f [] none = refl
lacks_map name f (hook ∷ hooks) none = elim (cases_Bool (is_named name hook)) [
  | inl is ↦ let same : Some hook ≡ None = rw is at none in absurd (cc same)
  | inr other ↦ rw other (ap (λ (l : List Hook). hook ∷ l) (lacks_map name f hooks (rw other at none)))
]

-- where names differ, the hook of a name has the first place of it

not_at : (test : Hook → Bool) (hooks : List Hook) (k : ℕ) (d : Hook) → find test hooks ≡ None → k < length hooks → test (get_or hooks k d) ≡ false
not_at test [] k d none below = absurd (omega arith)
not_at test (x ∷ hooks) zero d none below = elim (cases_Bool (test x)) [
  | inl is ↦ let same : Some x ≡ None = rw is at none in absurd (cc same)
  | inr other ↦ other
]
not_at test (x ∷ hooks) (suc k) d none below = elim (cases_Bool (test x)) [
  | inl is ↦ let same : Some x ≡ None = rw is at none in absurd (cc same)
  | inr other ↦ not_at test hooks k d (rw other at none) (omega arith)
]

named_from : (name : List ℕ) (hooks : List Hook) (j k : ℕ) (d : Hook) → NamesDiffer hooks → k < length hooks → is_named name (get_or hooks k d) ≡ true → position_from (is_named name) j hooks ≡ Some (j + k)
named_from name [] j k d differ below is = absurd (omega arith)
named_from name (x ∷ hooks) j zero d differ below is = rw is (ap Some (omega arith))
named_from name (x ∷ hooks) j (suc k) d differ below is = elim (cases_Bool (is_named name x)) [
  | inl first ↦
      let never : is_named name (get_or hooks k d) ≡ false = not_at (is_named name) hooks k d (no_other name x hooks differ first) (omega arith) in
      let same : true ≡ false = sym is ∙ never in
      absurd (cc same)
  | inr other ↦ rw other (named_from name hooks (j + 1) k d differ.1 (omega arith) is ∙ ap Some (omega arith))
]

pub place_of_named : (name : List ℕ) (hooks : List Hook) (m : BTreeMap (List ℕ) Hook) (k : ℕ) (d : Hook) → AreConsistent hooks m → k < length hooks → is_named name (get_or hooks k d) ≡ true → position_from (is_named name) 0 hooks ≡ Some k
place_of_named name hooks m k d consistent below is = named_from name hooks 0 k d consistent.differ below is ∙ ap Some (omega arith)

lacks_place : (name : List ℕ) (hooks : List Hook) (j : ℕ) → find (is_named name) hooks ≡ None → position_from (is_named name) j hooks ≡ None
lacks_place name [] j none = refl
lacks_place name (x ∷ hooks) j none = elim (cases_Bool (is_named name x)) [
  | inl is ↦ let same : Some x ≡ None = rw is at none in absurd (cc same)
  | inr other ↦ rw other (lacks_place name hooks (j + 1) (rw other at none))
]

-- what is not in the index is not in the list
pub no_place : (name : List ℕ) (hooks : List Hook) (m : BTreeMap (List ℕ) Hook) → AreConsistent hooks m → get (slice_cmp nat_cmp) m name ≡ None → position_from (is_named name) 0 hooks ≡ None
no_place name hooks m consistent none = lacks_place name hooks 0 (sym (consistent.indexed name) ∙ none)

-- ONE MORE

find_push : (test : Hook → Bool) (hooks : List Hook) (hook : Hook) → find test hooks ≡ None → test hook ≡ false → find test (hooks ++ hook ∷ []) ≡ None
find_push test [] hook none is = rw is refl
find_push test (x ∷ hooks) hook none is = elim (cases_Bool (test x)) [
  | inl t ↦ let same : Some x ≡ None = rw t at none in absurd (cc same)
  | inr f ↦ rw f (find_push test hooks hook (rw f at none) is)
]

-- is_named is symmetric
not_named : (a b : Hook) → is_named b.name a ≡ false → is_named a.name b ≡ false
not_named a b other = elim (cases_Bool (bytes_eq b.name a.name)) [
  | inl is ↦ let same : b.name ≡ a.name = same_names b.name a.name is in let never : true ≡ false = sym (own_name a.name) ∙ rw same at other in absurd (cc never)
  | inr e ↦ e
]

pub differ_push : (hooks : List Hook) (hook : Hook) → NamesDiffer hooks → find (is_named hook.name) hooks ≡ None → NamesDiffer (hooks ++ hook ∷ [])
differ_push [] hook differ none = (refl, tt)
differ_push (x ∷ hooks) hook differ none = elim (cases_Bool (is_named hook.name x)) [
  | inl is ↦ let same : Some x ≡ None = rw is at none in absurd (cc same)
  | inr other ↦ (find_push (is_named x.name) hooks hook differ.0 (not_named x hook other), differ_push hooks hook differ.1 (rw other at none))
]

-- ONE LESS

find_filter : (test : Hook → Bool) (name : List ℕ) (hooks : List Hook) → find test hooks ≡ None → find test (without_named name hooks) ≡ None
find_filter test name [] none = refl
find_filter test name (x ∷ hooks) none = elim (cases_Bool (test x)) [
  | inl t ↦ let same : Some x ≡ None = rw t at none in absurd (cc same)
  | inr f ↦ elim (cases_Bool (is_named name x)) [
    | inl is ↦ rw is (find_filter test name hooks (rw f at none))
    | inr other ↦ rw (other, f) (find_filter test name hooks (rw f at none))
  ]
]

pub differ_filter : (name : List ℕ) (hooks : List Hook) → NamesDiffer hooks → NamesDiffer (without_named name hooks)
differ_filter name [] differ = tt
differ_filter name (x ∷ hooks) differ = elim (cases_Bool (is_named name x)) [
  | inl is ↦ rw is (differ_filter name hooks differ.1)
  | inr other ↦ rw other (find_filter (is_named x.name) name hooks differ.0, differ_filter name hooks differ.1)
]

removed_from : (name : List ℕ) (hooks : List Hook) (j i : ℕ) → NamesDiffer hooks → position_from (is_named name) j hooks ≡ Some i → (k : ℕ) × (i ≡ j + k) × (remove hooks k ≡ without_named name hooks)
removed_from name [] j i differ at = absurd (cc at)
removed_from name (hook ∷ hooks) j i differ at = elim (cases_Bool (is_named name hook)) [
  | inl is ↦ let same : Some j ≡ Some i = rw is at at in let equal : j ≡ i = cc in (0, omega arith, rw is (sym (lacks_filter name hooks (no_other name hook hooks differ is))))
  | inr other ↦
      let rest = removed_from name hooks (j + 1) i differ.1 (rw other at at) in
      let equal : i ≡ j + 1 + rest.0 = rest.1 in
      (suc (rest.0), omega arith, rw other (ap (λ (l : List Hook). hook ∷ l) rest.2))
]

pub removed : (name : List ℕ) (hooks : List Hook) (i : ℕ) → NamesDiffer hooks → position_from (is_named name) 0 hooks ≡ Some i → remove hooks i ≡ without_named name hooks
removed name hooks i differ at =
    let p = removed_from name hooks 0 i differ at in
    let same : p.0 ≡ i = let e : i ≡ 0 + p.0 = p.1 in omega arith in
    subst (λ (k : ℕ). remove hooks k ≡ without_named name hooks) same p.2

pub differ_removed : (name : List ℕ) (hooks : List Hook) (i : ℕ) → NamesDiffer hooks → position_from (is_named name) 0 hooks ≡ Some i → NamesDiffer (remove hooks i)
differ_removed name hooks i differ at = subst NamesDiffer (sym (removed name hooks i differ at)) (differ_filter name hooks differ)

pub none_removed : (name : List ℕ) (hooks : List Hook) → position_from (is_named name) 0 hooks ≡ None → without_named name hooks ≡ hooks
none_removed name hooks at = lacks_filter name hooks (not_found name hooks at)

-- ONE CHANGED, UNDER ITS NAME

change_from : (name : List ℕ) (f : Hook → Hook) (hooks : List Hook) (j i : ℕ) (d : Hook) → NamesDiffer hooks → position_from (is_named name) j hooks ≡ Some i → (k : ℕ) × (i ≡ j + k) × (set hooks k (f (get_or hooks k d)) ≡ map (change_hook name f) hooks)
change_from name f [] j i d differ at = absurd (cc at)
change_from name f (hook ∷ hooks) j i d differ at = elim (cases_Bool (is_named name hook)) [
  | inl is ↦ let same : Some j ≡ Some i = rw is at at in let equal : j ≡ i = cc in (0, omega arith, rw is (ap (λ (l : List Hook). f hook ∷ l) (sym (lacks_map name f hooks (no_other name hook hooks differ is)))))
  | inr other ↦
      let rest = change_from name f hooks (j + 1) i d differ.1 (rw other at at) in
      let equal : i ≡ j + 1 + rest.0 = rest.1 in
      (suc (rest.0), omega arith, rw other (ap (λ (l : List Hook). hook ∷ l) rest.2))
]

pub change_at_place : (name : List ℕ) (f : Hook → Hook) (hooks : List Hook) (i : ℕ) (d : Hook) → NamesDiffer hooks → position_from (is_named name) 0 hooks ≡ Some i → set hooks i (f (get_or hooks i d)) ≡ map (change_hook name f) hooks
change_at_place name f hooks i d differ at =
    let p = change_from name f hooks 0 i d differ at in
    let same : p.0 ≡ i = let e : i ≡ 0 + p.0 = p.1 in omega arith in
    subst (λ (k : ℕ). set hooks k (f (get_or hooks k d)) ≡ map (change_hook name f) hooks) same p.2

pub none_change : (name : List ℕ) (f : Hook → Hook) (hooks : List Hook) → position_from (is_named name) 0 hooks ≡ None → map (change_hook name f) hooks ≡ hooks
none_change name f hooks at = lacks_map name f hooks (not_found name hooks at)

-- a change that leaves names

names_change : (test name : List ℕ) (f : Hook → Hook) (hooks : List Hook) → ((h : Hook) → (f h).name ≡ h.name) → find (is_named test) hooks ≡ None → find (is_named test) (map (change_hook name f) hooks) ≡ None
names_change test name f [] keeps none = refl
names_change test name f (x ∷ hooks) keeps none = elim (cases_Bool (is_named test x)) [
  | inl t ↦ let same : Some x ≡ None = rw t at none in absurd (cc same)
  | inr e ↦ elim (cases_Bool (is_named name x)) [
    | inl is ↦ let e' : bytes_eq (f x).name test ≡ false = rw (keeps x) e in rw (is, e') (names_change test name f hooks keeps (rw e at none))
    | inr other ↦ rw (other, e) (names_change test name f hooks keeps (rw e at none))
  ]
]

differ_change : (name : List ℕ) (f : Hook → Hook) (hooks : List Hook) → ((h : Hook) → (f h).name ≡ h.name) → NamesDiffer hooks → NamesDiffer (map (change_hook name f) hooks)
differ_change name f [] keeps differ = tt
differ_change name f (x ∷ hooks) keeps differ = elim (cases_Bool (is_named name x)) [
  | inl is ↦ rw is (rw (keeps x) (names_change x.name name f hooks keeps differ.0), differ_change name f hooks keeps differ.1)
  | inr other ↦ rw other (names_change x.name name f hooks keeps differ.0, differ_change name f hooks keeps differ.1)
]

-- A HOOK WITH A LINK

pub linked_none : (name : List ℕ) (link : LinkId) (hooks : List Hook) → find (is_named name) hooks ≡ None → is_some (find (is_linked name link) hooks) ≡ false
linked_none name link [] none = refl
linked_none name link (x ∷ hooks) none = elim (cases_Bool (is_named name x)) [
  | inl is ↦ let same : Some x ≡ None = rw is at none in absurd (cc same)
  | inr other ↦ rw other (linked_none name link hooks (rw other at none))
]

pub linked_some : (name : List ℕ) (link : LinkId) (hooks : List Hook) (hook : Hook) → NamesDiffer hooks → find (is_named name) hooks ≡ Some hook → is_some (find (is_linked name link) hooks) ≡ (hook.link.0 == link.0)
linked_some name link [] hook differ some = absurd (cc some)
linked_some name link (x ∷ hooks) hook differ some = elim (cases_Bool (is_named name x)) [
  | inl is ↦
      let it : Some x ≡ Some hook = rw is at some in
      let same : x ≡ hook = cc in
      let none = linked_none name link hooks (no_other name x hooks differ is) in
      elim (cases_Bool (x.link.0 == link.0)) [
        | inl yes_link ↦ rw (is, yes_link) (sym (ap (λ (h : Hook). h.link.0 == link.0) (sym same) ∙ yes_link))
        | inr no_link ↦ rw (is, no_link) (none ∙ sym (ap (λ (h : Hook). h.link.0 == link.0) (sym same) ∙ no_link))
      ]
  | inr other ↦ rw other (linked_some name link hooks hook differ.1 (rw other at some))
]

-- a hook that is added and taken away again
pub added_removed : (hook : Hook) (hooks : List Hook) → find (is_named hook.name) hooks ≡ None → without_named hook.name (hooks ++ hook ∷ []) ≡ hooks
added_removed hook [] none = rw (own_name hook.name) refl
added_removed hook (x ∷ hooks) none = elim (cases_Bool (is_named hook.name x)) [
  | inl is ↦ let same : Some x ≡ None = rw is at none in absurd (cc same)
  | inr other ↦ rw other (ap (λ (l : List Hook). x ∷ l) (added_removed hook hooks (rw other at none)))
]

-- THE INDEX

same_key : (a b : List ℕ) → is_eq (slice_cmp nat_cmp a b) ≡ bytes_eq a b
same_key a b = is_eq-slice_cmp a b

-- one more

find_last : (test : Hook → Bool) (hooks : List Hook) (hook : Hook) → find test hooks ≡ None → find test (hooks ++ hook ∷ []) ≡ cond (test hook) (Some hook) None
find_last test [] hook none = refl
find_last test (x ∷ hooks) hook none = elim (cases_Bool (test x)) [
  | inl t ↦ let same : Some x ≡ None = rw t at none in absurd (cc same)
  | inr f ↦ rw f (find_last test hooks hook (rw f at none))
]

find_first : (test : Hook → Bool) (hooks : List Hook) (hook : Hook) → test hook ≡ false → find test (hooks ++ hook ∷ []) ≡ find test hooks
find_first test [] hook off = rw off refl
find_first test (x ∷ hooks) hook off = elim (cases_Bool (test x)) [
  | inl t ↦ rw t refl
  | inr f ↦ rw f (find_first test hooks hook off)
]

find_added : (q : List ℕ) (hooks : List Hook) (hook : Hook) → find (is_named hook.name) hooks ≡ None → find (is_named q) (hooks ++ hook ∷ []) ≡ cond (bytes_eq hook.name q) (Some hook) (find (is_named q) hooks)
find_added q hooks hook fresh = elim (cases_Bool (bytes_eq hook.name q)) [
  | inl is ↦
      let same : hook.name ≡ q = same_names hook.name q is in
      let none : find (is_named q) hooks ≡ None = rw (← same) fresh in
      find_last (is_named q) hooks hook none ∙ ap (λ (o : Option Hook). cond (bytes_eq hook.name q) (Some hook) o) (sym none)
  | inr other ↦ rw other (find_first (is_named q) hooks hook other)
]

pub indexed_push : (hooks : List Hook) (hook : Hook) (m n : BTreeMap (List ℕ) Hook) → IsIndexed hooks m → find (is_named hook.name) hooks ≡ None → Updates (slice_cmp nat_cmp) m n hook.name (Some hook) → IsIndexed (hooks ++ hook ∷ []) n
indexed_push hooks hook m n indexed fresh updates = λ q.
    updates.0 q
    ∙ ap (λ (b : Bool). cond b (Some hook) (get (slice_cmp nat_cmp) m q)) (same_key hook.name q)
    ∙ ap (λ (o : Option Hook). cond (bytes_eq hook.name q) (Some hook) o) (indexed q)
    ∙ sym (find_added q hooks hook fresh)

-- one less

find_none : (q : List ℕ) (hooks : List Hook) → find (is_named q) (without_named q hooks) ≡ None
find_none q [] = refl
find_none q (x ∷ hooks) = elim (cases_Bool (is_named q x)) [
  | inl is ↦ rw is (find_none q hooks)
  | inr other ↦ rw (other, other) (find_none q hooks)
]

find_others : (q name : List ℕ) (hooks : List Hook) → bytes_eq name q ≡ false → find (is_named q) (without_named name hooks) ≡ find (is_named q) hooks
find_others q name [] apart = refl
find_others q name (x ∷ hooks) apart = elim (cases_Bool (is_named name x)) [
  | inl is ↦
      let same : x.name ≡ name = same_names x.name name is in
      let off : is_named q x ≡ false = rw same apart in
      rw (is, off) (find_others q name hooks apart)
  | inr other ↦ elim (cases_Bool (is_named q x)) [
    | inl here ↦ rw (other, here) refl
    | inr off ↦ rw (other, off) (find_others q name hooks apart)
  ]
]

find_removed : (q name : List ℕ) (hooks : List Hook) → find (is_named q) (without_named name hooks) ≡ cond (bytes_eq name q) None (find (is_named q) hooks)
find_removed q name hooks = elim (cases_Bool (bytes_eq name q)) [
  | inl is ↦ let same : name ≡ q = same_names name q is in rw (is, same) (find_none q hooks)
  | inr apart ↦ rw apart (find_others q name hooks apart)
]

pub indexed_remove : (hooks : List Hook) (name : List ℕ) (m n : BTreeMap (List ℕ) Hook) → IsIndexed hooks m → Updates (slice_cmp nat_cmp) m n name None → IsIndexed (without_named name hooks) n
indexed_remove hooks name m n indexed updates = λ q.
    updates.0 q
    ∙ ap (λ (b : Bool). cond b None (get (slice_cmp nat_cmp) m q)) (same_key name q)
    ∙ ap (λ (o : Option Hook). cond (bytes_eq name q) None o) (indexed q)
    ∙ sym (find_removed q name hooks)

-- one changed, under its name

find_change_here : (name : List ℕ) (f : Hook → Hook) (hooks : List Hook) → ((h : Hook) → (f h).name ≡ h.name) → find (is_named name) (map (change_hook name f) hooks) ≡ option_map f (find (is_named name) hooks)
find_change_here name f [] keeps = refl
find_change_here name f (x ∷ hooks) keeps = elim (cases_Bool (is_named name x)) [
  | inl is ↦ let now : bytes_eq (f x).name name ≡ true = rw (keeps x) is in rw (is, now) refl
  | inr other ↦ rw (other, other) (find_change_here name f hooks keeps)
]

find_change_there : (q name : List ℕ) (f : Hook → Hook) (hooks : List Hook) → ((h : Hook) → (f h).name ≡ h.name) → bytes_eq name q ≡ false → find (is_named q) (map (change_hook name f) hooks) ≡ find (is_named q) hooks
find_change_there q name f [] keeps apart = refl
find_change_there q name f (x ∷ hooks) keeps apart = elim (cases_Bool (is_named name x)) [
  | inl is ↦
      let same : x.name ≡ name = same_names x.name name is in
      let off : bytes_eq x.name q ≡ false = rw same apart in
      let now : bytes_eq (f x).name q ≡ false = rw (keeps x) off in
      rw (is, now, off) (find_change_there q name f hooks keeps apart)
  | inr other ↦ elim (cases_Bool (is_named q x)) [
    | inl here ↦ rw (other, here) refl
    | inr off ↦ rw (other, off) (find_change_there q name f hooks keeps apart)
  ]
]

find_change : (q name : List ℕ) (f : Hook → Hook) (hooks : List Hook) (hook : Hook) → ((h : Hook) → (f h).name ≡ h.name) → find (is_named name) hooks ≡ Some hook → find (is_named q) (map (change_hook name f) hooks) ≡ cond (bytes_eq name q) (Some (f hook)) (find (is_named q) hooks)
find_change q name f hooks hook keeps some = elim (cases_Bool (bytes_eq name q)) [
  | inl is ↦ let same : name ≡ q = same_names name q is in rw (is, ← same) (find_change_here name f hooks keeps ∙ ap (option_map f) some)
  | inr apart ↦ rw apart (find_change_there q name f hooks keeps apart)
]

pub indexed_change : (name : List ℕ) (f : Hook → Hook) (hooks : List Hook) (hook : Hook) (m n : BTreeMap (List ℕ) Hook) → ((h : Hook) → (f h).name ≡ h.name) → IsIndexed hooks m → find (is_named name) hooks ≡ Some hook → Updates (slice_cmp nat_cmp) m n name (Some (f hook)) → IsIndexed (map (change_hook name f) hooks) n
indexed_change name f hooks hook m n keeps indexed some updates = λ q.
    updates.0 q
    ∙ ap (λ (b : Bool). cond b (Some (f hook)) (get (slice_cmp nat_cmp) m q)) (same_key name q)
    ∙ ap (λ (o : Option Hook). cond (bytes_eq name q) (Some (f hook)) o) (indexed q)
    ∙ sym (find_change q name f hooks hook keeps some)

-- THE FIELDS OF HOOKS

pub consistent_push : (hooks : List Hook) (hook : Hook) (m n : BTreeMap (List ℕ) Hook) → AreConsistent hooks m → find (is_named hook.name) hooks ≡ None → Updates (slice_cmp nat_cmp) m n hook.name (Some hook) → AreConsistent (hooks ++ hook ∷ []) n
consistent_push hooks hook m n consistent fresh updates = record { differ = differ_push hooks hook consistent.differ fresh; indexed = indexed_push hooks hook m n consistent.indexed fresh updates }

pub consistent_remove : (hooks : List Hook) (name : List ℕ) (i : ℕ) (m n : BTreeMap (List ℕ) Hook) → AreConsistent hooks m → position_from (is_named name) 0 hooks ≡ Some i → Updates (slice_cmp nat_cmp) m n name None → AreConsistent (remove hooks i) n
consistent_remove hooks name i m n consistent at updates = record {
  differ = differ_removed name hooks i consistent.differ at;
  indexed = subst (λ (l : List Hook). IsIndexed l n) (sym (removed name hooks i consistent.differ at)) (indexed_remove hooks name m n consistent.indexed updates);
}

pub consistent_change : (name : List ℕ) (f : Hook → Hook) (hooks : List Hook) (i : ℕ) (d now : Hook) (m n : BTreeMap (List ℕ) Hook) → ((h : Hook) → (f h).name ≡ h.name) → AreConsistent hooks m → position_from (is_named name) 0 hooks ≡ Some i → now ≡ f (get_or hooks i d) → Updates (slice_cmp nat_cmp) m n name (Some now) → AreConsistent (set hooks i now) n
consistent_change name f hooks i d now m n keeps consistent at is updates =
    subst (λ (l : List Hook). AreConsistent l n) (sym (ap (set hooks i) is ∙ change_at_place name f hooks i d consistent.differ at))
    (record {
      differ = differ_change name f hooks keeps consistent.differ;
      indexed = indexed_change name f hooks (get_or hooks i d) m n keeps consistent.indexed (found name hooks i d at) (subst (λ (h : Hook). Updates (slice_cmp nat_cmp) m n name (Some h)) is updates);
    })

-- what is in the list is in the index
pub indexed_at : (name : List ℕ) (hooks : List Hook) (i : ℕ) (m : BTreeMap (List ℕ) Hook) → AreConsistent hooks m → position_from (is_named name) 0 hooks ≡ Some i → i < length hooks → IsSome (get (slice_cmp nat_cmp) m name)
indexed_at name [] i m consistent at below = absurd (omega arith)
indexed_at name (x ∷ hooks) i m consistent at below = ap is_some (consistent.indexed name ∙ found name (x ∷ hooks) i x at)

pub indexed_linked : (name : List ℕ) (link : LinkId) (hooks : List Hook) (m : BTreeMap (List ℕ) Hook) (hook : Hook) → AreConsistent hooks m → get (slice_cmp nat_cmp) m name ≡ Some hook → is_some (find (is_linked name link) hooks) ≡ (hook.link.0 == link.0)
indexed_linked name link hooks m hook consistent some = linked_some name link hooks hook consistent.differ (sym (consistent.indexed name) ∙ some)

pub indexed_unlinked : (name : List ℕ) (link : LinkId) (hooks : List Hook) (m : BTreeMap (List ℕ) Hook) → AreConsistent hooks m → get (slice_cmp nat_cmp) m name ≡ None → is_some (find (is_linked name link) hooks) ≡ false
indexed_unlinked name link hooks m consistent none = linked_none name link hooks (sym (consistent.indexed name) ∙ none)
