use Rattle.std.proofs.Common.{◌∙◌, ap, length}
use Rattle.ng_core.specs.CoreStory.{setting_of, story}
use Rattle.ng_replay.proofs.judge.Followed.{begun_follows}
use Rattle.ng_trace.proofs.EventsMore.{as_many}
use Rattle.ng_trace.proofs.watching.watch.Goals as goal

pub verdict_of-requires-clause-begun : goal.verdict_of-requires-clause-begun
verdict_of-requires-clause-begun g c κs within = begun_follows (story c.args.core.now) (setting_of c.args.core.now) c.new-unfed.result c.requires.begun

pub returns-clause-watched : goal.returns-clause-watched
returns-clause-watched g c = λ yes.
    as_many (story c.args.core.now) (setting_of c.args.core.now) c.args.inputs.items c.new-unfed.result c.args.journal.now.items c.len.result c.in_ok-watched.watched c.verdict_of.new.watched c.requires.begun
    c.know_story.ensures.sound (c.len.ensures ∙ ap length c.new-unfed.ensures) c.new-unfed.ensures c.in_ok-watched.ensures (c.in_ok-verdict.ensures.watched yes)
