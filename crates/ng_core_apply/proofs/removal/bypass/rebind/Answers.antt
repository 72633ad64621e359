use Rattle.ng_core_apply.proofs.removal.bypass.rebind.Goals as goal

pub returns-clause-stands : goal.returns-clause-stands
returns-clause-stands g c = λ a S. c.accept_at.ensures.stands a c.args.item.now.to S
