use Rattle.std.proofs.Common.{◌≡◌, take, drop, ◌++◌}
use Rattle.ng_machine.specs.kinds.Tee.{tee_clear}
use Rattle.ng_plain_types.proofs.tee.stats.clear.Given as goal

abbrev pub invariant-loop-row : goal.invariant-loop-row
invariant-loop-row l = l.rows ≡ tee_clear (take l.row-index l.initial.rows) ++ drop l.row-index l.initial.rows
