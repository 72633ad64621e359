use Rattle.ng_workers.specs.Desks.{core_desk}
use Rattle.ng_workers.proofs.Driven.{drives_grew, drives_none, may_grew, quits}
use Rattle.ng_workers.proofs.feeding.take_or_close.Goals as goal

pub returns-in-Taken-clause-drove : goal.returns-in-Taken-clause-drove
returns-in-Taken-clause-drove g c =
    let old = core_desk c.args.core.now 0 in
    let new = core_desk c.take_next.new.core 0 in
    let left = c.args.feeder.now in (
      drives_grew old new left.unfed c.requires.fits.0 c.in-Taken.ensures.grew,
      may_grew old new left c.requires.fits c.in-Taken.ensures.grew,
    )

pub returns-in-End-clause-drove : goal.returns-in-End-clause-drove
returns-in-End-clause-drove g c =
    let old = core_desk c.args.core.now 0 in
    let left = c.args.feeder.now.unfed in
    quits old old (core_desk c.take_next.new.core 0) left left (drives_none old left c.requires.fits.0) c.in-End.ensures.grew c.in-End.ensures.gave_up
