-- The name alone is taken out.
use Rattle.ng_topology.proofs.NameLemmas.{forgets_updates}
use Rattle.ng_topology.proofs.names.forget_name.Goals as goal

pub returns-in-Some : goal.returns-in-Some
returns-in-Some c = forgets_updates c.args.index.now c.remove-id.new.self c.args.name.now c.in-Some.own c.in-Some.is c.remove-id.ensures.updates
