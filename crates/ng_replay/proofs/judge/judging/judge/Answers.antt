use Rattle.ng_core.specs.CoreStory.{setting_of, story}
use Rattle.ng_replay.proofs.judge.Followed.{begun_follows}
use Rattle.ng_replay.proofs.judge.judging.judge.Goals as goal

pub verdict_of-requires-clause-begun : goal.verdict_of-requires-clause-begun
verdict_of-requires-clause-begun g c κs within = begun_follows (story c.args.core.now) (setting_of c.args.core.now) c.new-unfed.result c.requires.begun
