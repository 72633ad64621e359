use Rattle.std.proofs.Common.{◌≡◌, ◌++◌, length}
use Rattle.ng_call.specs.Called.{texts}
use Rattle.ng_trace_call.specs.Words.{as_run}
use Rattle.ng_trace_call.proofs.words.as_run.Given as goal

abbrev pub invariant-loop-word : goal.invariant-loop-word
invariant-loop-word l = as_run (texts l.words) ≡ texts l.made.items ++ as_run (texts l.rest)

abbrev pub decreases-loop-word : goal.decreases-loop-word
decreases-loop-word l = length l.rest
