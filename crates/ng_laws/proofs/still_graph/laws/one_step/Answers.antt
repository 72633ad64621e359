use Rattle.ng_laws.proofs.still_graph.Stepped.{one_step as proved}
use Rattle.ng_laws.proofs.still_graph.laws.one_step.Goals as goal

pub returns : goal.returns
returns c = proved
