use Rattle.ng_replay.proofs.Accepted.{runs_are_accepted as proved}
use Rattle.ng_replay.proofs.judge.laws.runs_are_accepted.Goals as goal

pub returns : goal.returns
returns c = proved
