use Rattle.ng_topology.proofs.SoundLemmas.{soundness_stays}
use Rattle.ng_topology.proofs.laws.soundness_stays.Goals as goal

pub returns : goal.returns
returns c = soundness_stays
