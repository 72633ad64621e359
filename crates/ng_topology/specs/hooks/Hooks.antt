-- The hooks of a node: no two have one name, and an index has each under its name.
use Rattle.std.specs.Prelude.{◌≡◌, ℕ, ◌&&◌, ◌==◌, Bool, not, if◌then◌else◌, List, [], ◌∷◌, find, filter, length, None}
use Rattle.std.specs.BTreeMap.{BTreeMap, get}
use Rattle.std.specs.Cmp.Lexicographic.{slice_cmp}
use Rattle.std.specs.Ordering.{nat_cmp}
use Rattle.ng_base.specs.declared.ids.LinkId.{LinkId}
use Rattle.ng_machine.specs.declared.hook.Hook.{Hook}
use Rattle.ng_machine.specs.World.{is_named}

abbrev pub NamesDiffer : List Hook → Type 0
NamesDiffer [] = Unit {0}
NamesDiffer (hook ∷ hooks) = (find (is_named hook.name) hooks ≡ None) × NamesDiffer hooks

-- the hook of that name has this link
abbrev pub is_linked : List ℕ → LinkId → Hook → Bool
is_linked name link hook = is_named name hook && hook.link.0 == link.0

abbrev pub without_named : List ℕ → List Hook → List Hook
without_named name hooks = filter (λ h. not (is_named name h)) hooks

-- each name is found in the index as in the list
abbrev pub IsIndexed : List Hook → BTreeMap (List ℕ) Hook → Type 0
IsIndexed hooks index = (name : List ℕ) → get (slice_cmp nat_cmp) index name ≡ find (is_named name) hooks

pub record AreConsistent (hooks : List Hook) (index : BTreeMap (List ℕ) Hook) : Type 0 where
  pub differ : NamesDiffer hooks
  pub indexed : IsIndexed hooks index

-- how many of the hooks are joined
abbrev pub count_joined : List Hook → ℕ
count_joined hooks = length (filter (λ h. h.joined) hooks)

-- what a hook adds to that number
abbrev pub weight : Hook → ℕ
weight hook = if hook.joined then 1 else 0

-- what the fields of hooks say: names differ, each is indexed, and the number of joined hooks is kept
pub record AreKept (hooks : List Hook) (index : BTreeMap (List ℕ) Hook) (joined : ℕ) : Type 0 where
  pub consistent : AreConsistent hooks index
  pub counted : joined ≡ count_joined hooks
