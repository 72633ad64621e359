-- How many packets of a bag go to the reader by each hook, as they are counted.
use Rattle.std.specs.Prelude.{◌≡◌, ℕ, List, length, slice_get, slice_index, Option, None, Some}
use Rattle.std.specs.BTreeMap.{IsOrdered, get}
use Rattle.std.specs.Cmp.Lexicographic.{slice_cmp}
use Rattle.std.specs.Ordering.{nat_cmp}
use Rattle.ng_forecast.specs.declared.hooks.HookCounts.{HookCounts}

-- the count at a place, if there is one
abbrev pub counted_at : List ℕ → Option ℕ → ℕ
counted_at counts None = 0
counted_at counts (Some place) = slice_index counts place

-- how many packets were counted for a hook
abbrev pub hook_count : HookCounts → List ℕ → ℕ
hook_count hooks name = counted_at hooks.counts.items (get (slice_cmp nat_cmp) hooks.places name)

-- each hook is found where it stands, and has a count
pub record AreKept (hooks : HookCounts) : Type 0 where
  pub named : (name : List ℕ) (place : ℕ) → get (slice_cmp nat_cmp) hooks.places name ≡ Some place
      → slice_get hooks.names.items place ≡ Some name
  pub placed : (name : List ℕ) (place : ℕ) → slice_get hooks.names.items place ≡ Some name
      → get (slice_cmp nat_cmp) hooks.places name ≡ Some place
  pub many : length hooks.counts.items ≡ length hooks.names.items
  pub ordered : IsOrdered (slice_cmp nat_cmp) hooks.places
