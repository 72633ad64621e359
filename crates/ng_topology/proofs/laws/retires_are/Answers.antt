use Rattle.ng_topology.proofs.WorldLemmas.{retires_are}
use Rattle.ng_topology.proofs.laws.retires_are.Goals as goal

pub returns : goal.returns
returns c = retires_are
