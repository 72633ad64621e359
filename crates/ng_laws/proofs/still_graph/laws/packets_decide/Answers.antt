use Rattle.ng_laws.proofs.still_graph.Bagged.{packets_decide as proved}
use Rattle.ng_laws.proofs.still_graph.laws.packets_decide.Goals as goal

pub returns : goal.returns
returns c = proved
