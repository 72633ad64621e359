use Rattle.std.proofs.Common.{◌∙◌}
use Rattle.ng_core.specs.CoreStory.{story}
use Rattle.ng_core.proofs.OpenStories.{open_story}
use Rattle.ng_workers.proofs.pool.Idle.{none_out}
use Rattle.ng_workers.proofs.pool.choosing.chosen.Goals as goal

pub returns-in-Ok-clause-idle : goal.returns-in-Ok-clause-idle
returns-in-Ok-clause-idle g c = λ running.
    none_out (story c.play.new.core) c.know_story.ensures.sound (open_story (story c.play.new.core) (c.in-Ok.ensures.ends ∙ running)) c.in-Ok.ensures.idle
