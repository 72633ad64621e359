use Rattle.ng_workers.specs.Desks.{core_desk}
use Rattle.ng_workers.proofs.Driven.{drives_grew, drives_none, drove_then, may_grew, quits}
use Rattle.ng_workers.proofs.feeding.lead.Goals as goal

pub feed_and_take-requires-clause-fits : goal.feed_and_take-requires-clause-fits
feed_and_take-requires-clause-fits g c κs within =
    may_grew (core_desk c.args.core.now 0) (core_desk c.hand_in.new.core 0) c.args.feeder.now c.requires.fits c.in-Ok.ensures.grew

pub returns-in-Ok-clause-drove : goal.returns-in-Ok-clause-drove
returns-in-Ok-clause-drove g c =
    let old = core_desk c.args.core.now 0 in
    let mid = core_desk c.hand_in.new.core 0 in
    let left = c.args.feeder.now.unfed in
    drove_then c.feed_and_take.result old mid (core_desk c.feed_and_take.new.core 0) left left c.feed_and_take.new.feeder
    (drives_grew old mid left c.requires.fits.0 c.in-Ok.ensures.grew) c.feed_and_take.ensures.drove

pub returns-in-Err-clause-drove : goal.returns-in-Err-clause-drove
returns-in-Err-clause-drove g c =
    let old = core_desk c.args.core.now 0 in
    let left = c.args.feeder.now.unfed in
    quits old old (core_desk c.hand_in.new.core 0) left left (drives_none old left c.requires.fits.0) c.in-Err.ensures.grew c.in-Err.ensures.gave_up
