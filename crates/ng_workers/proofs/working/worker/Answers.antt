use Rattle.std.proofs.Common.{◌∙◌}
use Rattle.ng_workers.specs.Passes.{desk}
use Rattle.ng_workers.proofs.Growing.{grew_then}
use Rattle.ng_workers.proofs.working.worker.Goals as goal

pub loop-preserved : goal.loop-preserved
loop-preserved g c = (
  tt,
  tt,
  c.in-Goes.ensures.turn,
  (
    c.in-Goes.ensures.grows.0 ∙ c.loop.invariant.3.0,
    grew_then (desk c.args.pass) (desk c.loop.pass) (desk c.in-Goes.next) c.loop.invariant.3.1 c.in-Goes.ensures.grows.1,
  ),
  c.in-Goes.ensures.leaves.0,
  c.in-Goes.ensures.leaves.1,
)

pub returns-in-Ends-clause-grows : goal.returns-in-Ends-clause-grows
returns-in-Ends-clause-grows g c = (
  c.in-Ends.ensures.grows.0 ∙ c.loop.invariant.3.0,
  grew_then (desk c.args.pass) (desk c.loop.pass) (desk c.in-Ends.last) c.loop.invariant.3.1 c.in-Ends.ensures.grows.1,
)
