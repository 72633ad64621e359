use Rattle.ng_topology.proofs.WorldLemmas.{gives_are}
use Rattle.ng_topology.proofs.laws.gives_are.Goals as goal

pub returns : goal.returns
returns c = gives_are
