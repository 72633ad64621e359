use Rattle.ng_workers.specs.Desks.{core_desk}
use Rattle.ng_workers.proofs.Growing.{grew_then}
use Rattle.ng_workers.proofs.holding.serve.Goals as goal

pub returns-clause-grew : goal.returns-clause-grew
returns-clause-grew g c =
    grew_then (core_desk c.args.core.now c.args.seat) (core_desk c.hand_in-left.new.core c.args.seat) (core_desk c.go_on.new.core c.args.seat) c.hand_in-left.ensures.grew c.go_on.ensures.grew
