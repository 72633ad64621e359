-- So many more as there were turns.
use Rattle.std.proofs.Common.{◌≡◌, ◌++◌, replicate}
use Rattle.ng_trace.proofs.noting.push_times.Given as goal

abbrev pub invariant-loop : goal.invariant-loop
invariant-loop l = l.out.items ≡ l.fn.out.items ++ replicate l.counter l.why
