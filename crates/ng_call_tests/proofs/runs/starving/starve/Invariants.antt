use Rattle.std.proofs.Common.{◌≡◌}
use Rattle.ng_call_tests.proofs.runs.starving.starve.Given as goal

abbrev pub invariant-loop-node : goal.invariant-loop-node
invariant-loop-node l = l.starved.items ≡ l.yielded
