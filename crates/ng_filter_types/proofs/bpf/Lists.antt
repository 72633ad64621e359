-- The hooks of a bpf node as lists: their names, and one that is made or cut.
use Rattle.std.proofs.Common.{◌≡◌, ℕ, false, ◌||◌, List, [], ◌∷◌, ◌++◌, refl, ap, inl, inr, true≢false}
use Rattle.std.specs.Str.{bytes_eq}
use Rattle.std.proofs.lemmas.Bool.{cases_Bool}
use Rattle.ng_base.specs.Names.{has_name, without_name}
use Rattle.ng_base.proofs.NameLemmas.{same_name}
use Rattle.ng_machine.specs.kinds.Bpf.{Filter, bpf_with_hook, bpf_without_hook, has_filter, is_of_hook}
use Rattle.ng_filter_types.specs.bpf.Filters.{hooks_of}

-- ---- the names

-- a name among the hooks
pub named : (s : List Filter) (hook : List ℕ) → has_name (hooks_of s) hook ≡ has_filter s hook
named [] hook = refl
named (f ∷ s) hook = ap (λ b. bytes_eq f.way.hook hook || b) (named s hook)

-- ---- one is made or cut

pub hooks_with : (s : List Filter) (hook : List ℕ) → hooks_of (bpf_with_hook s hook) ≡ hooks_of s ++ hook ∷ []
hooks_with [] hook = refl
hooks_with (f ∷ s) hook = ap (λ names. f.way.hook ∷ names) (hooks_with s hook)

pub hooks_without : (s : List Filter) (hook : List ℕ) → hooks_of (bpf_without_hook s hook) ≡ without_name (hooks_of s) hook
hooks_without [] hook = refl
hooks_without (f ∷ s) hook = elim (cases_Bool (bytes_eq f.way.hook hook)) [
  | inl is ↦ rw is (hooks_without s hook)
  | inr other ↦ rw other (ap (λ names. f.way.hook ∷ names) (hooks_without s hook))
]

-- a hook that is cut right after it was made leaves no trace
pub undone : (s : List Filter) (hook : List ℕ) → has_filter s hook ≡ false → bpf_without_hook (bpf_with_hook s hook) hook ≡ s
undone [] hook fresh = rw (same_name hook) refl
undone (f ∷ s) hook fresh = elim (cases_Bool (is_of_hook hook f)) [
  | inl is ↦ absurd (true≢false (rw is at fresh))
  | inr other ↦ rw other (ap (λ rest. f ∷ rest) (undone s hook (rw other at fresh)))
]
