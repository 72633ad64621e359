-- The number stands under the name alone.
use Rattle.ng_topology.proofs.NameLemmas.{enters_updates}
use Rattle.ng_topology.proofs.names.enter_name.Goals as goal

pub returns-in_ok-insert-clause-ok : goal.returns-in_ok-insert-clause-ok
returns-in_ok-insert-clause-ok c = enters_updates c.args.index.now c.insert.new.self c.args.name.now c.in-Some.own c.args.id c.in-Some.is c.in_ok-insert.ensures.updates
