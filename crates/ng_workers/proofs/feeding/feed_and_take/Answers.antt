use Rattle.ng_workers.specs.Desks.{core_desk}
use Rattle.ng_workers.proofs.Driven.{drove_quits, drove_then, quits}
use Rattle.ng_workers.proofs.feeding.feed_and_take.Goals as goal

pub returns-in-Ok-clause-drove : goal.returns-in-Ok-clause-drove
returns-in-Ok-clause-drove g c =
    drove_then c.take_or_close.result (core_desk c.args.core.now 0) (core_desk c.feed_all.new.core 0) (core_desk c.take_or_close.new.core 0) c.args.feeder.now.unfed c.feed_all.new.feeder.unfed c.feed_all.new.feeder
    c.in-Ok.ensures.drives c.take_or_close.ensures.drove

pub returns-in-Err-clause-drove : goal.returns-in-Err-clause-drove
returns-in-Err-clause-drove g c =
    let some = c.in-Err.ensures.some in
    drove_quits g.B.Node.state c.quit-in-Err.result (core_desk c.args.core.now 0) (core_desk c.quit-in-Err.new.core 0) c.args.feeder.now.unfed c.feed_all.new.feeder c.quit-in-Err.ensures.takes c.quit-in-Err.ensures.gave_up
    (quits (core_desk c.args.core.now 0) (core_desk c.feed_all.new.core 0) (core_desk c.quit-in-Err.new.core 0) c.args.feeder.now.unfed some.0 some.1 c.quit-in-Err.ensures.grew c.quit-in-Err.ensures.gave_up)
