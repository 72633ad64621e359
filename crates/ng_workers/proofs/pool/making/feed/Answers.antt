use Rattle.std.proofs.Common.{ap}
use Rattle.ng_core.specs.CoreStory.{story}
use Rattle.ng_workers.proofs.pool.Holding.{either_fits}
use Rattle.ng_workers.proofs.pool.making.feed.Goals as goal

pub returns-clause-fits : goal.returns-clause-fits
returns-clause-fits g c =
    either_fits (story c.args.core.now) (story c.feed_next.new.core) c.args.unfed.now c.feed_next.new.self c.in_ok-fed.fed
    (λ is. (c.in_ok-fed.ensures.fed is).0) (λ is. let k = c.in_ok-fed.ensures.unfed is in (ap story k.0, k.1)) c.requires.fits
