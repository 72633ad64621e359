use Rattle.ng_topology.proofs.WorldLemmas.{lends_are}
use Rattle.ng_topology.proofs.laws.lends_are.Goals as goal

pub returns : goal.returns
returns c = lends_are
