use Rattle.ng_workers.specs.Desks.{core_desk}
use Rattle.ng_workers.proofs.Growing.{grew_marked}
use Rattle.ng_workers.proofs.holding.give_back.Goals as goal

pub returns-then-ended-clause-grew : goal.returns-then-ended-clause-grew
returns-then-ended-clause-grew g c = grew_marked (core_desk c.args.core.now c.args.seat) (core_desk c.give_up.new.self c.args.seat) c.give_up.ensures.own
