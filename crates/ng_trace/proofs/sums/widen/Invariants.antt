-- So many more as there were turns.
use Rattle.std.proofs.Common.{◌≡◌, ◌++◌, replicate}
use Rattle.ng_trace.specs.Watched.{blank_sum}
use Rattle.ng_trace.proofs.sums.widen.Given as goal

abbrev pub invariant-loop : goal.invariant-loop
invariant-loop l = l.sums.items ≡ l.fn.sums.items ++ replicate l.counter (blank_sum l.fn.label)
