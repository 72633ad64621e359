-- The hooks by which packets go to the reader, as they are counted one after another.
use Rattle.std.proofs.Common.{◌≡◌, ◌∙◌, ℕ, ◌+◌, ◌<◌, ◌≤◌, ◌==◌, ◌⊎◌, zero, suc, Bool, true, false, List, [], ◌∷◌, ◌++◌, length, if◌then◌else◌, refl, sym, ap, subst, arith, inl, inr, slice_get, slice_index}
use Rattle.std.specs.BTreeMap.{BTreeMap, IsOrdered, Updates, get, insert_entry, is_at, keys}
use Rattle.std.specs.Cmp.Lexicographic.{slice_cmp, nat_list_cmp_total}
use Rattle.std.specs.List.{All, flat_map}
use Rattle.std.specs.List.Sorted.{IsStrictlySortedBy}
use Rattle.std.specs.Map.{keys_of, lookup}
use Rattle.std.specs.Ordering.{is_eq, match_ordering, nat_cmp}
use Rattle.std.specs.Str.{bytes_eq}
use Rattle.std.specs.declared.cmp.Ordering.{Ordering}
use Rattle.std.specs.declared.cmp.Ordering.TheVariants.{Less, Equal, Greater}
use Rattle.std.specs.declared.option.Option.{Option}
use Rattle.std.specs.declared.option.Option.TheVariants.{None, Some}
use Rattle.std.specs.Option.{unwrap_or}
use Rattle.std.proofs.lemmas.Bool.{cases_Bool, eq-eqb, eqb-true}
use Rattle.std.proofs.lemmas.List.{append-nil, length-append}
use Rattle.std.proofs.lemmas.Option.{slice_get_within}
use Rattle.std.proofs.lemmas.List.Elements.{All-head, All-tail}
use Rattle.std.proofs.lemmas.Map.{lookup-none}
use Rattle.std.proofs.lemmas.Map.Entries.{lookup_tail, none_below_head}
use Rattle.std.proofs.lemmas.Map.Keys.{sorted_tail}
use Rattle.std.proofs.lemmas.Map.Text.{is_eq-slice_cmp}
use Rattle.std.proofs.lemmas.Slice.Eq.{bytes_eq-Decides}
use Rattle.ng_forecast.specs.declared.hooks.HookCounts.{HookCounts}
use Rattle.ng_forecast.specs.Hooks.{AreKept, counted_at, hook_count}
use Rattle.ng_forecast.specs.Text.{hook_line, with_name, with_name_by}

abbrev Places : Type 0
Places = BTreeMap (List ℕ) ℕ

-- THE NAMES, IN ORDER

-- its name is put where it belongs, unless it is there
names_by : (o : Ordering) (hook : List ℕ) (v : ℕ) (e : List ℕ × ℕ) (es more : List (List ℕ × ℕ)) (entered : List (List ℕ)) → keys_of more ≡ entered
    → keys_of (match_ordering o ((hook, v) ∷ e ∷ es) ((e.0, v) ∷ es) (e ∷ more)) ≡ with_name_by o hook e.0 (keys_of es) entered
names_by Less hook v e es more entered is = refl
names_by Equal hook v e es more entered is = refl
names_by Greater hook v e es more entered is = ap (λ (names : List (List ℕ)). e.0 ∷ names) is

pub names_more : (hook : List ℕ) (v : ℕ) (es : List (List ℕ × ℕ)) → keys_of (insert_entry (slice_cmp nat_cmp) es hook v) ≡ with_name hook (keys_of es)
names_more hook v [] = refl
names_more hook v (e ∷ es) =
    names_by (slice_cmp nat_cmp hook e.0) hook v e es (insert_entry (slice_cmp nat_cmp) es hook v) (with_name hook (keys_of es)) (names_more hook v es)

-- a hook that is there stays where it is
pub stays : (hook : List ℕ) (v : ℕ) (es : List (List ℕ × ℕ)) → IsStrictlySortedBy (slice_cmp nat_cmp) (keys_of es) → lookup (is_at (slice_cmp nat_cmp hook)) es ≡ Some v
    → with_name hook (keys_of es) ≡ keys_of es
stays hook v [] sorted found = absurd (cc found)
stays hook v (e ∷ es) sorted found = by (λ later. stays hook v es (sorted_tail (slice_cmp nat_cmp) e.0 (keys_of es) sorted) later) (slice_cmp nat_cmp hook e.0) refl
  where
    by : (lookup (is_at (slice_cmp nat_cmp hook)) es ≡ Some v → with_name hook (keys_of es) ≡ keys_of es) → (o : Ordering) → slice_cmp nat_cmp hook e.0 ≡ o
        → with_name_by o hook e.0 (keys_of es) (with_name hook (keys_of es)) ≡ e.0 ∷ keys_of es
    by others Less is =
        let none : lookup (is_at (slice_cmp nat_cmp hook)) (e ∷ es) ≡ None =
        lookup-none (is_at (slice_cmp nat_cmp hook)) (e ∷ es) (none_below_head nat_list_cmp_total hook e es sorted is) in
        let never : None ≡ Some v = sym none ∙ found in absurd (cc never)
    by others Equal is = refl
    by others Greater is =
        ap (λ (names : List (List ℕ)). e.0 ∷ names) (others (sym (lookup_tail (is_at (slice_cmp nat_cmp hook)) e es (ap is_eq is)) ∙ found))

-- THE PLACES

at_last : (xs : List (List ℕ)) (x : List ℕ) → slice_get (xs ++ x ∷ []) (length xs) ≡ Some x
at_last [] x = refl
at_last (y ∷ xs) x = at_last xs x

at_before : (xs : List (List ℕ)) (x : List ℕ) (i : ℕ) (y : List ℕ) → slice_get xs i ≡ Some y → slice_get (xs ++ x ∷ []) i ≡ Some y
at_before [] x i y is = absurd (cc is)
at_before (z ∷ xs) x zero y is = is
at_before (z ∷ xs) x (suc i) y is = at_before xs x i y is

at_pushed : (xs : List (List ℕ)) (x : List ℕ) (i : ℕ) (y : List ℕ) → slice_get (xs ++ x ∷ []) i ≡ Some y → (slice_get xs i ≡ Some y) ⊎ ((i ≡ length xs) × (x ≡ y))
at_pushed [] x zero y is = inr (refl, ap (λ (o : Option (List ℕ)). unwrap_or o x) is)
at_pushed [] x (suc i) y is = absurd (cc is)
at_pushed (z ∷ xs) x zero y is = inl is
at_pushed (z ∷ xs) x (suc i) y is = elim (at_pushed xs x i y is) [
  | inl before ↦ inl before
  | inr last ↦ inr (ap suc last.0, last.1)
]

index_more : (xs : List ℕ) (i : ℕ) → slice_index (xs ++ 0 ∷ []) i ≡ slice_index xs i
index_more [] zero = refl
index_more [] (suc i) = refl
index_more (x ∷ xs) zero = refl
index_more (x ∷ xs) (suc i) = index_more xs i

index_past : (xs : List ℕ) (i : ℕ) → length xs ≤ i → slice_index xs i ≡ 0
index_past [] i past = refl
index_past (x ∷ xs) zero past = absurd (omega arith)
index_past (x ∷ xs) (suc i) past = index_past xs i (omega arith)

differs : (a b : List ℕ) → bytes_eq a b ≡ false → bytes_eq b a ≡ false
differs a b not = elim (cases_Bool (bytes_eq b a)) [
  | inl is ↦
      let same : a ≡ b = sym ((bytes_eq-Decides b a).0 is) in
      let never : true ≡ false = sym ((bytes_eq-Decides a b).1 same) ∙ not in absurd (cc never)
  | inr is ↦ is
]

-- what was found for another hook is still found
other : (m n : Places) (hook : List ℕ) (w : Option ℕ) (name : List ℕ) → Updates (slice_cmp nat_cmp) m n hook w → bytes_eq name hook ≡ false
    → get (slice_cmp nat_cmp) n name ≡ get (slice_cmp nat_cmp) m name
other m n hook w name updates not = updates.2 name (is_eq-slice_cmp hook name ∙ differs name hook not)

-- A HOOK THAT COMES FOR THE FIRST TIME

pub kept_more : (old new : HookCounts) (hook : List ℕ) → AreKept old → get (slice_cmp nat_cmp) old.places hook ≡ None → new.names.items ≡ old.names.items ++ hook ∷ []
    → new.counts.items ≡ old.counts.items ++ 0 ∷ [] → Updates (slice_cmp nat_cmp) old.places new.places hook (Some (length old.names.items))
    → IsOrdered (slice_cmp nat_cmp) new.places → AreKept new
kept_more old new hook kept first names counts updates ordered = record { named = named; placed = placed; many = many; ordered = ordered }
  where
    named : (name : List ℕ) (place : ℕ) → get (slice_cmp nat_cmp) new.places name ≡ Some place → slice_get new.names.items place ≡ Some name
    named name place found = elim (cases_Bool (bytes_eq name hook)) [
      | inl is ↦
          let same : name ≡ hook = (bytes_eq-Decides name hook).0 is in
          let here : Some (length old.names.items) ≡ Some place = sym updates.1 ∙ ap (get (slice_cmp nat_cmp) new.places) (sym same) ∙ found in
          let last : length old.names.items ≡ place = ap (λ (o : Option ℕ). unwrap_or o 0) here in
          rw names (rw same (subst (λ (i : ℕ). slice_get (old.names.items ++ hook ∷ []) i ≡ Some hook) last (at_last old.names.items hook)))
      | inr is ↦
          let before : slice_get old.names.items place ≡ Some name = kept.named name place (sym (other old.places new.places hook (Some (length old.names.items)) name updates is) ∙ found) in
          rw names (at_before old.names.items hook place name before)
    ]

    placed : (name : List ℕ) (place : ℕ) → slice_get new.names.items place ≡ Some name → get (slice_cmp nat_cmp) new.places name ≡ Some place
    placed name place found = elim (at_pushed old.names.items hook place name (ap (λ (l : List (List ℕ)). slice_get l place) (sym names) ∙ found)) [
      | inl before ↦
          let there : get (slice_cmp nat_cmp) old.places name ≡ Some place = kept.placed name place before in
          elim (cases_Bool (bytes_eq name hook)) [
            | inl is ↦
                let same : name ≡ hook = (bytes_eq-Decides name hook).0 is in
                let never : None ≡ Some place = sym first ∙ ap (get (slice_cmp nat_cmp) old.places) (sym same) ∙ there in absurd (cc never)
            | inr is ↦ other old.places new.places hook (Some (length old.names.items)) name updates is ∙ there
          ]
      | inr last ↦
          ap (get (slice_cmp nat_cmp) new.places) (sym last.1) ∙ updates.1 ∙ ap Some (sym last.0)
    ]

    many : length new.counts.items ≡ length new.names.items
    many =
        let same = kept.many in
        rw counts (rw names (pushed_both old.counts.items old.names.items hook same))
      where
        pushed_both : (xs : List ℕ) (ys : List (List ℕ)) (y : List ℕ) → length xs ≡ length ys → length (xs ++ 0 ∷ []) ≡ length (ys ++ y ∷ [])
        pushed_both xs ys y same = grind (arith, length-append xs (0 ∷ []), length-append ys (y ∷ []))

pub counts_more : (old new : HookCounts) (hook : List ℕ) → AreKept old → get (slice_cmp nat_cmp) old.places hook ≡ None → new.counts.items ≡ old.counts.items ++ 0 ∷ []
    → Updates (slice_cmp nat_cmp) old.places new.places hook (Some (length old.names.items)) → (name : List ℕ) → hook_count new name ≡ hook_count old name
counts_more old new hook kept first counts updates name = elim (cases_Bool (bytes_eq name hook)) [
  | inl is ↦
      let same : name ≡ hook = (bytes_eq-Decides name hook).0 is in
      let many = kept.many in
      let none : slice_index old.counts.items (length old.names.items) ≡ 0 = index_past old.counts.items (length old.names.items) (omega arith) in
      rw same
      (ap (counted_at new.counts.items) updates.1 ∙ ap (λ (l : List ℕ). slice_index l (length old.names.items)) counts
      ∙ index_more old.counts.items (length old.names.items) ∙ none ∙ sym (ap (counted_at old.counts.items) first))
  | inr is ↦
      ap (counted_at new.counts.items) (other old.places new.places hook (Some (length old.names.items)) name updates is)
      ∙ ap (λ (l : List ℕ). counted_at l (get (slice_cmp nat_cmp) old.places name)) counts ∙ at_place (get (slice_cmp nat_cmp) old.places name)
]
  where
    at_place : (o : Option ℕ) → counted_at (old.counts.items ++ 0 ∷ []) o ≡ counted_at old.counts.items o
    at_place None = refl
    at_place (Some place) = index_more old.counts.items place

-- ONE MORE

pub one_more : (old new : HookCounts) (hook : List ℕ) (place : ℕ) → AreKept old → new.places ≡ old.places → get (slice_cmp nat_cmp) old.places hook ≡ Some place
    → ((k : ℕ) → slice_index new.counts.items k ≡ (if k == place then 1 else 0) + slice_index old.counts.items k)
    → (name : List ℕ) → hook_count new name ≡ (if bytes_eq name hook then 1 else 0) + hook_count old name
one_more old new hook place kept places here counts name =
    ap (λ (m : Places). counted_at new.counts.items (get (slice_cmp nat_cmp) m name)) places ∙ by (bytes_eq name hook) refl (get (slice_cmp nat_cmp) old.places name) refl
  where
    by : (b : Bool) → bytes_eq name hook ≡ b → (o : Option ℕ) → get (slice_cmp nat_cmp) old.places name ≡ o
        → counted_at new.counts.items o ≡ (if b then 1 else 0) + counted_at old.counts.items o
    by true is o found =
        let same : name ≡ hook = (bytes_eq-Decides name hook).0 is in
        let there : o ≡ Some place = sym found ∙ ap (get (slice_cmp nat_cmp) old.places) same ∙ here in
        rw there (counts place ∙ ap (λ (b : Bool). (if b then 1 else 0) + slice_index old.counts.items place) (eq-eqb place place refl))
    by false is None found = refl
    by false is (Some at) found = elim (cases_Bool (at == place)) [
      | inl equal ↦
          let first : Some name ≡ Some hook =
          sym (kept.named name at found) ∙ ap (slice_get old.names.items) (eqb-true at place equal) ∙ kept.named hook place here in
          let same : name ≡ hook = ap (λ (o : Option (List ℕ)). unwrap_or o name) first in
          let never : true ≡ false = sym ((bytes_eq-Decides name hook).1 same) ∙ is in absurd (cc never)
      | inr unequal ↦ counts at ∙ ap (λ (b : Bool). (if b then 1 else 0) + slice_index old.counts.items at) unequal
    ]

pub is_within : (hooks : HookCounts) (hook : List ℕ) (place : ℕ) → AreKept hooks → get (slice_cmp nat_cmp) hooks.places hook ≡ Some place → place < length hooks.counts.items
is_within hooks hook place kept here =
    let low = slice_get_within hooks.names.items place hook (kept.named hook place here) in
    let many = kept.many in omega arith

-- THE LINES OF THE HOOKS

hook_lines : (h : HookCounts) (es : List (List ℕ × ℕ)) → All (λ e. get (slice_cmp nat_cmp) h.places e.0 ≡ Some e.1) es
    → flat_map (λ e. hook_line e.0 (slice_index h.counts.items e.1)) es ≡ flat_map (λ name. hook_line name (hook_count h name)) (keys_of es)
hook_lines h [] found = refl
hook_lines h (e ∷ es) found =
    let here : hook_count h e.0 ≡ slice_index h.counts.items e.1 =
    ap (counted_at h.counts.items) (All-head (λ e. get (slice_cmp nat_cmp) h.places e.0 ≡ Some e.1) e es found) in
    let rest = hook_lines h es (All-tail (λ e. get (slice_cmp nat_cmp) h.places e.0 ≡ Some e.1) e es found) in
    ap (λ (n : ℕ). hook_line e.0 n ++ flat_map (λ e. hook_line e.0 (slice_index h.counts.items e.1)) es) (sym here)
    ∙ ap (λ (text : List ℕ). hook_line e.0 (hook_count h e.0) ++ text) rest

pub lines_told : (h : HookCounts) (text old : List ℕ) (rest : List (List ℕ × ℕ)) → All (λ e. get (slice_cmp nat_cmp) h.places e.0 ≡ Some e.1) h.places.entries → rest ≡ []
    → text ++ flat_map (λ e. hook_line e.0 (slice_index h.counts.items e.1)) rest
    ≡ old ++ flat_map (λ e. hook_line e.0 (slice_index h.counts.items e.1)) h.places.entries
    → text ≡ old ++ flat_map (λ name. hook_line name (hook_count h name)) (keys h.places)
lines_told h text old rest found none is =
    sym (append-nil text) ∙ (ap (λ (es : List (List ℕ × ℕ)). text ++ flat_map (λ e. hook_line e.0 (slice_index h.counts.items e.1)) es) (sym none)
    ∙ (is ∙ ap (λ (lines : List ℕ). old ++ lines) (hook_lines h h.places.entries found)))
