use Rattle.ng_laws.proofs.still_graph.Placed.{places_are_ports as proved}
use Rattle.ng_laws.proofs.still_graph.laws.places_are_ports.Goals as goal

pub returns : goal.returns
returns c = proved
