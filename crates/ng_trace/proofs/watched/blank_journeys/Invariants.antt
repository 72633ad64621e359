-- As many as there were turns.
use Rattle.std.proofs.Common.{◌≡◌, replicate}
use Rattle.ng_trace.specs.Watched.{blank_journey}
use Rattle.ng_trace.proofs.watched.blank_journeys.Given as goal

abbrev pub invariant-loop : goal.invariant-loop
invariant-loop l = l.journeys.items ≡ replicate l.counter blank_journey
