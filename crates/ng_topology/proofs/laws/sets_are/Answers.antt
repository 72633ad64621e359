use Rattle.ng_topology.proofs.WorldLemmas.{sets_are}
use Rattle.ng_topology.proofs.laws.sets_are.Goals as goal

pub returns : goal.returns
returns c = sets_are
