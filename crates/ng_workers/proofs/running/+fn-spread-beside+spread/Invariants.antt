use Rattle.std.proofs.Common.{length}
use Rattle.ng_workers.proofs.running.+fn-spread-beside+spread.Given as goal

abbrev pub decreases-beside : goal.decreases-beside
decreases-beside g l = length l.passes.items

abbrev pub decreases-spread : goal.decreases-spread
decreases-spread g l = length l.passes.items
