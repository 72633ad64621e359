use Rattle.std.proofs.Common.{◌∙◌}
use Rattle.ng_workers.specs.Passes.{desk, pass_of}
use Rattle.ng_workers.proofs.Growing.{grew_then}
use Rattle.ng_workers.proofs.working.step.Goals as goal

pub returns-in-Taken-clause-grows : goal.returns-in-Taken-clause-grows
returns-in-Taken-clause-grows g c = (
  c.attend.ensures.grows.0 ∙ c.hold-pass.ensures.grows.0,
  grew_then (desk c.args.pass) (desk c.hold-pass.result.0) (desk (pass_of c.attend.result)) c.hold-pass.ensures.grows.1 c.attend.ensures.grows.1,
)
