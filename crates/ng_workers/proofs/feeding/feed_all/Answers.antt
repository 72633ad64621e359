use Rattle.std.proofs.Common.{◌∙◌, None, refl}
use Rattle.ng_workers.specs.Desks.{core_desk}
use Rattle.ng_workers.specs.Driving.{Drives}
use Rattle.ng_workers.proofs.Driven.{drives_none, drives_then}
use Rattle.ng_workers.proofs.feeding.feed_all.Goals as goal

pub loop-init : goal.loop-init
loop-init g c = (drives_none (core_desk c.args.core.now 0) c.args.feeder.now.unfed c.requires.fits.0, c.requires.fits, c.requires.running, refl, refl, λ other else. refl)

pub returns-then-not-branch-clause-drives : goal.returns-then-not-branch-clause-drives
returns-then-not-branch-clause-drives g c =
    drives_then (core_desk c.args.core.now 0) (core_desk c.loop.core 0) (core_desk c.feed_one.new.core 0) c.args.feeder.now.unfed c.loop.feeder.unfed c.feed_one.new.feeder.unfed None
    c.loop.invariant.0 c.in_ok-feed_one.ensures.drives

pub loop-preserved : goal.loop-preserved
loop-preserved g c = (
  drives_then (core_desk c.args.core.now 0) (core_desk c.loop.core 0) (core_desk c.feed_one.new.core 0) c.args.feeder.now.unfed c.loop.feeder.unfed c.feed_one.new.feeder.unfed None
      c.loop.invariant.0 c.in_ok-feed_one.ensures.drives,
  c.in_ok-feed_one.ensures.fits,
  c.in_ok-feed_one.ensures.running,
  c.feed_one.ensures.job ∙ c.loop.invariant.3,
  c.feed_one.ensures.stays ∙ c.loop.invariant.4,
  λ other else. c.feed_one.ensures.others other else ∙ c.loop.invariant.5 other else,
)
