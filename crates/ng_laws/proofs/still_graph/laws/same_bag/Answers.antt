use Rattle.ng_laws.proofs.still_graph.Bagged.{same_bag as proved}
use Rattle.ng_laws.proofs.still_graph.laws.same_bag.Goals as goal

pub returns : goal.returns
returns c = proved
