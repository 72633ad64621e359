use Rattle.std.proofs.Common.{◌∙◌, sym}
use Rattle.ng_core.specs.CoreStory.{story}
use Rattle.ng_replay.proofs.judge.Seats.{follows_closed, refuses_closed}
use Rattle.ng_replay.proofs.judge.following.stop.Goals as goal

pub returns-clause-follows : goal.returns-clause-follows
returns-clause-follows g c = λ is.
    follows_closed (story c.args.core.now) (story c.close-closed.new.core) c.args.unfed.now c.close-closed.result c.len.result c.len.ensures (sym c.unwrap_or.ensures ∙ is) c.close-closed.ensures.closed
    c.know_story-2.ensures.sound c.requires.goes

pub returns-clause-refuses : goal.returns-clause-refuses
returns-clause-refuses g c = λ is.
    refuses_closed (story c.args.core.now) c.args.unfed.now c.close-closed.result c.len.result c.len.ensures (sym c.unwrap_or.ensures ∙ is) c.close-closed.ensures.rest c.close-closed.ensures.below
    c.know_story.ensures.sound c.requires.goes
