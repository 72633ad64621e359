use Rattle.std.proofs.Common.{◌≡◌, None, sym, subst}
use Rattle.ng_core.specs.CoreStory.{CoreStory}
use Rattle.ng_workers.specs.Desks.{core_desk}
use Rattle.ng_workers.specs.Driving.{Drives, MayFeed}
use Rattle.ng_workers.proofs.Driven.{drives_none}
use Rattle.ng_workers.proofs.feeding.close.Goals as goal

pub returns-in-Err-clause-drove : goal.returns-in-Err-clause-drove
returns-in-Err-clause-drove g c =
    let d = core_desk c.args.core.now 0 in
    let left = c.args.feeder.now in
    subst (λ (x : CoreStory). Drives d (core_desk x 0) left.unfed left.unfed None × MayFeed left (core_desk x 0)) (sym c.in-Err.ensures.err)
    (drives_none d left.unfed c.requires.fits.0, c.requires.fits)
