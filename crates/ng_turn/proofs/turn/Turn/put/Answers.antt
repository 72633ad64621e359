use Rattle.std.proofs.Common.{◌≡◌, [], ◌∷◌, sym, subst}
use Rattle.std.specs.Prelude.{Contains}
use Rattle.crossbeam_queue.specs.Fifo.{Pushes}
use Rattle.crossbeam_queue.specs.Passes.{ruled_capacity}
use Rattle.ng_turn.specs.Rule.{IsRuled, after_push}
use Rattle.ng_turn.proofs.Lists.{contains_here}
use Rattle.ng_turn.proofs.Steps.{puts, bare}
use Rattle.ng_turn.proofs.turn.Turn.put.Goals as goal

pub push_as-requires-clause-rule : goal.push_as-requires-clause-rule
push_as-requires-clause-rule g c =
    let desk = g.T.Desked.desk in let held = c.args.held in let n = ruled_capacity c.args.self.now.place in (
      subst (λ v. Pushes (IsRuled desk) n held.ticket.id v held.value (λ w. w ≡ after_push desk held.value v)) (sym c.requires.turn.1)
          (puts desk n held.ticket.id held.found.value held.value (held.seat ∷ [])
          (λ seat other. c.requires.others seat (λ same. other (subst (λ s. Contains (held.seat ∷ []) s) (sym same) (contains_here held.seat []))))),
      bare desk held.ticket.id _,
    )
