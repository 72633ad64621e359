-- Hooks are counted node by node.
use Rattle.std.proofs.Common.{◌≡◌, ℕ, zero, suc, ◌+◌, ◌<◌, List, [], ◌∷◌, length, take, get_or, refl, ap, ◌∙◌, arith}
use Rattle.std.specs.declared.option.Option.{Option}
use Rattle.std.specs.declared.option.Option.TheVariants.{None, Some}
use Rattle.ng_machine.specs.Totals.{hook_total}
use Rattle.ng_machine.specs.World.{NodeRecord}
use Rattle.ng_core.specs.Counting.{hook_count}

none_total : (n : ℕ) → hook_total (take n []) ≡ 0
none_total zero = refl
none_total (suc n) = refl

one_more : (n : ℕ) → suc n + 1 ≡ suc (n + 1)
one_more n = omega arith

pub total_more : (nodes : List (Option NodeRecord)) (n : ℕ) → hook_total (take (n + 1) nodes) ≡ hook_total (take n nodes) + hook_count (get_or nodes n None)
total_more [] n = let now = none_total (n + 1) in let was = none_total n in omega arith
total_more (None ∷ nodes) zero = refl
total_more (Some node ∷ nodes) zero = omega arith
total_more (None ∷ nodes) (suc n) = ap (λ (k : ℕ). hook_total (take k (None ∷ nodes))) (one_more n) ∙ total_more nodes n
total_more (Some node ∷ nodes) (suc n) = let at = ap (λ (k : ℕ). hook_total (take k (Some node ∷ nodes))) (one_more n) in let more = total_more nodes n in omega arith

pub count_few : (o : Option NodeRecord) (n : ℕ) → 0 < n → ((node : NodeRecord) → o ≡ Some node → length node.hooks < n) → hook_count o < n
count_few None n pos few = pos
count_few (Some node) n pos few = few node refl
