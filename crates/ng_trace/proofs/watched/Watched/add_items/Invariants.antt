-- So many more as there were turns.
use Rattle.std.proofs.Common.{◌≡◌, ◌++◌, replicate}
use Rattle.ng_trace.proofs.watched.Watched.add_items.Given as goal

abbrev pub invariant-loop : goal.invariant-loop
invariant-loop l =
    (l.self-inside.origins.items ≡ l.fn.self.origins ++ replicate l.counter l.of)
    × (l.self-inside.journeys.items ≡ l.fn.self.journeys) × (l.self-inside.sums.items ≡ l.fn.self.sums)
