use Rattle.std.proofs.Common.{◌≡◌, take}
use Rattle.ng_machine.specs.kinds.Tee.{tee_bytes}
use Rattle.ng_plain_types.proofs.tee.stats.stats.Given as goal

abbrev pub invariant-loop-row : goal.invariant-loop-row
invariant-loop-row l = l.out.items ≡ tee_bytes (take l.row-index l.rows)
