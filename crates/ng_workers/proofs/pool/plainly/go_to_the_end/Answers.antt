use Rattle.ng_workers.proofs.pool.PartRuns.{on_err}
use Rattle.ng_workers.proofs.pool.plainly.go_to_the_end.Goals as goal

pub returns-in_err-go_on-clause-partly : goal.returns-in_err-go_on-clause-partly
returns-in_err-go_on-clause-partly g c = λ start inputs G. on_err c.from_residual.result (c.in_err-go_on.ensures.partly start inputs (c.loop.invariant.0 start inputs G))
