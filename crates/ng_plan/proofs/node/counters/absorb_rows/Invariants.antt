use Rattle.std.proofs.Common.{◌≡◌, take}
use Rattle.ng_machine.specs.Counters.{after_counts, count_row}
use Rattle.ng_plan.proofs.node.counters.absorb_rows.Given as goal

abbrev pub invariant-loop-count : goal.invariant-loop-count
invariant-loop-count g l = l.rows ≡ after_counts count_row l.initial.rows (take l.count-index l.counts)
