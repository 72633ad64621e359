use Rattle.ng_topology.proofs.WorldLemmas.{makes_are}
use Rattle.ng_topology.proofs.laws.makes_are.Goals as goal

pub returns : goal.returns
returns c = makes_are
