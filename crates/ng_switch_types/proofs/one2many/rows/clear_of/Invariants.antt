use Rattle.std.proofs.Common.{◌≡◌, take, drop, ◌++◌}
use Rattle.ng_machine.specs.Counters.{at_row, zeros}
use Rattle.ng_switch_types.proofs.one2many.rows.clear_of.Given as goal

abbrev pub invariant-loop-row : goal.invariant-loop-row
invariant-loop-row l = l.rows ≡ at_row l.hook (λ row. zeros 5) (take l.row-index l.initial.rows) ++ drop l.row-index l.initial.rows
