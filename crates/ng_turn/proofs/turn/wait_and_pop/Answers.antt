use Rattle.std.proofs.Common.{◌≡◌, ◌∙◌, sym, subst}
use Rattle.crossbeam_queue.specs.Fifo.{Pops}
use Rattle.ng_turn.specs.Rule.{IsRuled, AgreesWith, after_pop}
use Rattle.ng_turn.proofs.Steps.{pops}
use Rattle.ng_turn.proofs.turn.wait_and_pop.Goals as goal

pub try_pop_as-requires-clause-rule : goal.try_pop_as-requires-clause-rule
try_pop_as-requires-clause-rule g c = let desk = g.T.Desked.desk in let desks = c.requires.waits.0 in
    subst (λ v. Pops (IsRuled desk) c.loop.ticket.id v (λ x w. AgreesWith desk x v × (w ≡ after_pop x v)))
    (sym (c.loop.invariant.4 ∙ c.requires.waits.1)) (pops desk c.loop.ticket.id desks)
