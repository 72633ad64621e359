use Rattle.ng_laws.proofs.still_graph.Fuelled.{fuel as proved}
use Rattle.ng_laws.proofs.still_graph.laws.fuel.Goals as goal

pub returns : goal.returns
returns c = proved
