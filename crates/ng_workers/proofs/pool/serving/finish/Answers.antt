use Rattle.std.proofs.Common.{sym, subst}
use Rattle.ng_core.specs.CoreStory.{story}
use Rattle.ng_core.proofs.OpenStories.{open_story}
use Rattle.ng_workers.specs.pool.Workable.{IsWorkable}
use Rattle.ng_workers.proofs.pool.WorkableJobs.{jobs_are_workable}
use Rattle.ng_workers.proofs.pool.serving.finish.Goals as goal

pub work-requires-after_bounds : goal.work-requires-after_bounds
work-requires-after_bounds g c κs within =
    subst IsWorkable (sym c.requires.own) (jobs_are_workable (story c.args.core.now) c.args.seat c.know_story.ensures.sound c.know_story.ensures.fits (open_story (story c.args.core.now) c.requires.running))
