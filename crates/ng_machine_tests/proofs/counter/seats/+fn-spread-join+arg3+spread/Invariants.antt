use Rattle.std.proofs.Common.{length}
use Rattle.ng_machine_tests.proofs.counter.seats.+fn-spread-join+arg3+spread.Given as goal

abbrev pub decreases-join+arg3 : goal.decreases-join+arg3
decreases-join+arg3 g l = length l.passes.items

abbrev pub decreases-spread : goal.decreases-spread
decreases-spread g l = length l.passes.items
