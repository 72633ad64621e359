use Rattle.std.proofs.Common.{subst}
use Rattle.ng_core_state.specs.declared.handed.Work.{Work}
use Rattle.ng_workers.specs.declared.next.Next.{Next}
use Rattle.ng_workers.specs.Hands.{Drove}
use Rattle.ng_workers.specs.Passes.{desk}
use Rattle.ng_workers.proofs.Driven.{drove_step}
use Rattle.ng_workers.proofs.driving.step.Goals as goal

pub returns-in-Taken-clause-drove : goal.returns-in-Taken-clause-drove
returns-in-Taken-clause-drove g c =
    let old = desk c.args.pass in
    let new = desk c.hold-pass.result.0 in
    let drove = subst (λ (n : Next (Work g.row.B.Denot)). Drove n old new c.args.feeder.now.unfed c.hold-pass.new.feeder) c.in-Taken.is c.hold-pass.ensures.drove in
    drove_step c.attend.result old new c.args.feeder.now.unfed c.hold-pass.new.feeder drove.0 drove.1 c.attend.ensures.grows.1 c.attend.ensures.gave_up
