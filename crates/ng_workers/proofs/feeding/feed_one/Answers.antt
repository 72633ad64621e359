use Rattle.std.proofs.Common.{◌≡◌, Bool, false, sym, ap, ◌∙◌}
use Rattle.ng_core.specs.CoreStory.{story}
use Rattle.ng_workers.specs.Desks.{core_desk}
use Rattle.ng_workers.specs.SetUp.{is_held_back, stage_after}
use Rattle.ng_workers.proofs.Driven.{drives_none, tried_drives, tried_fits}
use Rattle.ng_workers.proofs.feeding.feed_one.Goals as goal
use Rattle.ng_workers.proofs.feeding.feed_one.Goals.{After-feeder-1}

not_held : (g : _) (c : After-feeder-1 g) → is_held_back c.args.feeder.now.stage (story c.args.core.now) c.args.feeder.now.unfed ≡ false
not_held g c = sym c.is_held_back.ensures ∙ c.if-is_held_back.false

pub returns-clause-drives : goal.returns-clause-drives
returns-clause-drives g c =
    tried_drives c.args.core.now c.feed_next.new.core c.args.feeder.now c.feed_next.new.self c.requires.fits (not_held g c) c.journal.ensures.sound c.in_ok-fed.fed c.in_ok-fed.ensures.fed
    c.in_ok-fed.ensures.unfed

pub returns-clause-fits : goal.returns-clause-fits
returns-clause-fits g c =
    tried_fits c.args.core.now c.feed_next.new.core c.args.feeder.now c.feed_next.new.self c.requires.fits (not_held g c) c.stage_after-feeder.result c.in_ok-fed.fed c.in_ok-fed.ensures.fed
    c.in_ok-fed.ensures.unfed
    (c.stage_after-feeder.ensures ∙ ap (λ (b : Bool). stage_after c.args.feeder.now.stage c.in_ok-fed.fed b) c.is_traffic_next-is_traffic.ensures)

pub returns-then-is_held_back-clause-drives : goal.returns-then-is_held_back-clause-drives
returns-then-is_held_back-clause-drives g c = drives_none (core_desk c.args.core.now 0) c.args.feeder.now.unfed c.requires.fits.0
