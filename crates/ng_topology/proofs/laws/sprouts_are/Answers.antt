use Rattle.ng_topology.proofs.WorldLemmas.{sprouts_are}
use Rattle.ng_topology.proofs.laws.sprouts_are.Goals as goal

pub returns : goal.returns
returns c = sprouts_are
