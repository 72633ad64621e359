use Rattle.ng_laws.proofs.still_graph.Stayed.{still as proved}
use Rattle.ng_laws.proofs.still_graph.laws.still.Goals as goal

pub returns : goal.returns
returns c = proved
