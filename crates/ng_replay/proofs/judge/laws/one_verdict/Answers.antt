use Rattle.ng_replay.proofs.judge.Verdicts.{one_verdict as proved}
use Rattle.ng_replay.proofs.judge.laws.one_verdict.Goals as goal

pub returns : goal.returns
returns c = proved
