use Rattle.ng_topology.proofs.WorldLemmas.{links_are}
use Rattle.ng_topology.proofs.laws.links_are.Goals as goal

pub returns : goal.returns
returns c = links_are
