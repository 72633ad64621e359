use Rattle.ng_core.proofs.OpenStories.{open_story}
use Rattle.ng_core.specs.CoreStory.{story}
use Rattle.ng_workers.proofs.holding.know_work.Goals as goal

pub returns : goal.returns
returns g c = c.jobs_are_workable.ensures (story c.args.core.now) c.args.seat c.journal.ensures.sound c.journal.ensures.modest.fits (open_story (story c.args.core.now) c.requires)
