-- The number of joined hooks, after a change.
use Rattle.std.proofs.Common.{◌≡◌, ℕ, zero, suc, ◌+◌, ◌<◌, ◌≤◌, true, false, List, [], ◌∷◌, ◌++◌, length, set, get_or, inl, inr, arith}
use Rattle.std.specs.Prelude.{remove}
use Rattle.std.proofs.lemmas.Bool.{cases_Bool}
use Rattle.ng_machine.specs.declared.hook.Hook.{Hook}
use Rattle.ng_topology.specs.hooks.Hooks.{count_joined, weight}

pub light : (hook : Hook) → weight hook ≤ 1
light hook = elim (cases_Bool hook.joined) [ inl is ↦ rw is (omega arith) | inr not_joined ↦ rw not_joined (omega arith) ]

-- the first is counted by its weight
first : (hook : Hook) (hooks : List Hook) → count_joined (hook ∷ hooks) ≡ weight hook + count_joined hooks
first hook hooks = elim (cases_Bool hook.joined) [ inl is ↦ rw is (omega arith) | inr not_joined ↦ rw not_joined (omega arith) ]

pub few_joined : (hooks : List Hook) → count_joined hooks ≤ length hooks
few_joined [] = omega arith
few_joined (hook ∷ hooks) = omega (arith, light hook, first hook hooks, few_joined hooks)

-- one more, at the end
pub one_more : (hooks : List Hook) (hook : Hook) → count_joined (hooks ++ hook ∷ []) ≡ count_joined hooks + weight hook
one_more [] hook = omega (arith, first hook [])
one_more (x ∷ hooks) hook = omega (arith, first x hooks, first x (hooks ++ hook ∷ []), one_more hooks hook)

-- one less, at a place
pub one_less : (hooks : List Hook) (k : ℕ) (d : Hook) → k < length hooks → count_joined (remove hooks k) + weight (get_or hooks k d) ≡ count_joined hooks
one_less [] k d below = absurd (omega arith)
one_less (x ∷ hooks) zero d below = omega (arith, first x hooks)
one_less (x ∷ hooks) (suc k) d below = omega (arith, first x hooks, first x (remove hooks k), one_less hooks k d (omega arith))

-- another hook at a place
pub one_changed : (hooks : List Hook) (k : ℕ) (d now : Hook) → k < length hooks → count_joined (set hooks k now) + weight (get_or hooks k d) ≡ count_joined hooks + weight now
one_changed [] k d now below = absurd (omega arith)
one_changed (x ∷ hooks) zero d now below = omega (arith, first x hooks, first now hooks)
one_changed (x ∷ hooks) (suc k) d now below = omega (arith, first x hooks, first x (set hooks k now), one_changed hooks k d now (omega arith))
