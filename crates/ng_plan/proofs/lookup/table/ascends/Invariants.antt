use Rattle.std.proofs.Common.{◌≡◌, ◌-◌, ◌<◌, get_or}
use Rattle.std.specs.List.{AllAdjacentBelow}
use Rattle.ng_plan.proofs.lookup.table.ascends.Given as goal

abbrev pub invariant-loop-place : goal.invariant-loop-place
invariant-loop-place g l =
    AllAdjacentBelow (λ a b. g.T.Key.key_of a < g.T.Key.key_of b) l.entries l.place
    × ((entry : _) → l.last ≡ g.T.Key.key_of (get_or l.entries (l.place - 1) entry))
