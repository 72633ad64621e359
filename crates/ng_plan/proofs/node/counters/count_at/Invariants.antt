use Rattle.std.proofs.Common.{◌≡◌, take, drop, ◌++◌}
use Rattle.ng_machine.specs.Counters.{at_row, raise_at}
use Rattle.ng_plan.proofs.node.counters.count_at.Given as goal

abbrev pub invariant-loop-row : goal.invariant-loop-row
invariant-loop-row g l = l.rows ≡ at_row l.hook (λ row. raise_at row l.number l.amount) (take l.row-index l.initial.rows) ++ drop l.row-index l.initial.rows
