-- Rows of counters by the names of their hooks.
use Rattle.std.proofs.Common.{◌≡◌, ℕ, Bool, true, false, ◌||◌, List, [], ◌∷◌, ◌++◌, find, Some, None, refl, sym, ap, ◌∙◌, inl, inr, true≢false}
use Rattle.std.specs.List.{list_any}
use Rattle.std.specs.Str.{bytes_eq}
use Rattle.std.proofs.lemmas.Bool.{cases_Bool}
use Rattle.ng_base.specs.Names.{has_name, without_name}
use Rattle.ng_base.proofs.NameLemmas.{is_same, same_name}
use Rattle.ng_machine.specs.Counters.{Count, Rows, after_counts, at_row, count_row, raise_at, row_named, without_row}
use Rattle.ng_machine.specs.kinds.One2many.{One2many, count_many}
use Rattle.ng_switch_types.specs.one2many.Node.{names_of}

-- ---- looking for a hook

pub has_row : (rows : Rows) (hook : List ℕ) → list_any (λ (row : List ℕ × List ℕ). bytes_eq row.0 hook) rows ≡ has_name (names_of rows) hook
has_row [] hook = refl
has_row (row ∷ rows) hook = ap (λ (b : Bool). bytes_eq row.0 hook || b) (has_row rows hook)

pub row_found : (rows : Rows) (hook : List ℕ) (found : List ℕ × List ℕ) → find (λ (row : List ℕ × List ℕ). bytes_eq row.0 hook) rows ≡ Some found
    → (row_named hook rows ≡ Some found.1) × (hook ≡ found.0)
row_found [] hook found e = absurd (cc e)
row_found (row ∷ rows) hook found e = elim (cases_Bool (bytes_eq row.0 hook)) [
  | inl is ↦
      let some : Some row ≡ Some found = rw is at e in
      let same : row ≡ found = cc some in
      (rw (is, same) refl, sym (is_same row.0 hook is) ∙ ap (λ (r : List ℕ × List ℕ). r.0) same)
  | inr other ↦
      let rest = row_found rows hook found (rw other at e) in
      (rw other (rest.0), rest.1)
]

pub row_missing : (rows : Rows) (hook : List ℕ) → find (λ (row : List ℕ × List ℕ). bytes_eq row.0 hook) rows ≡ None → row_named hook rows ≡ None
row_missing [] hook e = refl
row_missing (row ∷ rows) hook e = elim (cases_Bool (bytes_eq row.0 hook)) [
  | inl is ↦ let some : Some row ≡ None = rw is at e in absurd (cc some)
  | inr other ↦ rw other (row_missing rows hook (rw other at e))
]

-- ---- the names after a change

pub names_without : (rows : Rows) (hook : List ℕ) → without_name (names_of rows) hook ≡ names_of (without_row hook rows)
names_without [] hook = refl
names_without (row ∷ rows) hook = elim (cases_Bool (bytes_eq row.0 hook)) [
  | inl is ↦ rw is (names_without rows hook)
  | inr other ↦ rw other (ap (λ (names : List (List ℕ)). row.0 ∷ names) (names_without rows hook))
]

pub names_at : (hook : List ℕ) (change : List ℕ → List ℕ) (rows : Rows) → names_of (at_row hook change rows) ≡ names_of rows
names_at hook change [] = refl
names_at hook change (row ∷ rows) = elim (cases_Bool (bytes_eq row.0 hook)) [
  | inl is ↦ rw is (ap (λ (names : List (List ℕ)). row.0 ∷ names) (names_at hook change rows))
  | inr other ↦ rw other (ap (λ (names : List (List ℕ)). row.0 ∷ names) (names_at hook change rows))
]

pub names_counted : (counts : List Count) (rows : Rows) → names_of (after_counts count_row rows counts) ≡ names_of rows
names_counted [] rows = refl
names_counted (c ∷ counts) rows = names_counted counts (count_row rows c) ∙ names_at c.0 (λ row. raise_at row c.1 c.2) rows

-- a hook that is cut right after it was made
pub undone : (rows : Rows) (hook counters : List ℕ) → has_name (names_of rows) hook ≡ false → without_row hook (rows ++ (hook, counters) ∷ []) ≡ rows
undone [] hook counters fresh = rw (same_name hook) refl
undone (row ∷ rows) hook counters fresh = elim (cases_Bool (bytes_eq row.0 hook)) [
  | inl is ↦ let taken : true ≡ false = rw is at fresh in absurd (true≢false taken)
  | inr other ↦ rw other (ap (λ (rest : Rows). row ∷ rest) (undone rows hook counters (rw other at fresh)))
]

-- counting reaches the rows alone
pub counted : (counts : List Count) (s : One2many) → after_counts count_many s counts ≡ record s { rows = after_counts count_row s.rows counts }
counted [] s = refl
counted (c ∷ counts) s = counted counts (count_many s c)
