use Rattle.std.proofs.Common.{◌∙◌, ap}
use Rattle.ng_core.specs.CoreStory.{CoreStory}
use Rattle.ng_workers.specs.Desks.{core_desk}
use Rattle.ng_workers.proofs.Growing.{grew_marked, marked}
use Rattle.ng_workers.proofs.holding.apply.Goals as goal

pub returns-then-ended-clause-grew : goal.returns-then-ended-clause-grew
returns-then-ended-clause-grew g c = grew_marked (core_desk c.args.core.now c.args.seat) (core_desk c.give_up.new.self c.args.seat) c.give_up.ensures.own

pub returns-in-Err-clause-grew : goal.returns-in-Err-clause-grew
returns-in-Err-clause-grew g c =
    grew_marked (core_desk c.args.core.now c.args.seat) (core_desk c.give_up-in-Err.new.self c.args.seat)
    (c.give_up-in-Err.ensures.own ∙ ap (λ (x : CoreStory). marked (core_desk x c.args.seat)) c.in-Err.ensures.err)
