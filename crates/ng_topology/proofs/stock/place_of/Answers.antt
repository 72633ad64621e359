use Rattle.ng_machine.specs.State.{kind_of}
use Rattle.ng_topology.proofs.StockLemmas.{place_if_some, place_if_none}
use Rattle.ng_topology.proofs.stock.place_of.Goals as goal

pub returns-clause-some : goal.returns-clause-some
returns-clause-some g c = place_if_some (λ b. kind_of (g.B.Node.state b)) c.args.kind c.args.boxes.now _ c.position_of.ensures

pub returns-clause-none : goal.returns-clause-none
returns-clause-none g c = place_if_none (λ b. kind_of (g.B.Node.state b)) c.args.kind c.args.boxes.now _ c.position_of.ensures
