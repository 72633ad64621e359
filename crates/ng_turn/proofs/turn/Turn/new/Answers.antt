use Rattle.std.proofs.Common.{◌≡◌, ◌∙◌, sym, ap, subst, rules}
use Rattle.crossbeam_queue.specs.Fifo.{Pushes, Forks}
use Rattle.crossbeam_queue.specs.Passes.{ruled_capacity}
use Rattle.ng_turn.specs.declared.rule.View.TheVariants.{Stock}
use Rattle.ng_turn.specs.Rule.{IsRuled, stock_left, dealt_view}
use Rattle.ng_turn.proofs.Steps.{begins, bare, opens, deals}
use Rattle.ng_turn.proofs.Passes.{first_more}
use Rattle.ng_turn.proofs.turn.Turn.new.Goals as goal

pub ruled-requires-clause-rule : goal.ruled-requires-clause-rule
ruled-requires-clause-rule g c = begins g.T.Desked.desk

pub push_as-requires-clause-rule : goal.push_as-requires-clause-rule
push_as-requires-clause-rule g c =
    let desk = g.T.Desked.desk in
    let ticket = c.in-Ok-ruled.stock.id in
    let value = c.args.value in
    let n = ruled_capacity c.in-Ok-ruled.place in (
      subst (λ v. Pushes (IsRuled desk) n ticket v value (λ w. w ≡ Stock value 0)) (sym c.in-Ok-ruled.ensures.3) (opens desk n ticket value),
      bare desk ticket _,
    )

pub another-ticket-requires-clause-rule : goal.another-ticket-requires-clause-rule
another-ticket-requires-clause-rule g c =
    let desk = g.T.Desked.desk in let ticket = c.loop-seat.stock.id in
    subst (λ v. Forks (IsRuled desk) ticket v (stock_left v) (dealt_view desk v)) (sym c.loop-seat.invariant.3)
    (deals desk ticket c.args.value c.loop-seat.seat)

pub loop-seat-preserved : goal.loop-seat-preserved
loop-seat-preserved g c =
    let desk = g.T.Desked.desk in let was = c.loop-seat.invariant in let split = c.another-ticket.ensures in (
      search rules,
      search rules,
      search rules,
      split.rule.0 ∙ ap stock_left was.3,
      first_more g.T.Desked.blank desk c.in-Ok-ruled.place c.args.value c.loop-seat.passes.items c.push_reserved.new.self.items _ c.push_reserved.ensures.items
          (search rules) split.queue.1
          (split.rule.1 ∙ ap (dealt_view desk) was.3) was.4,
    )
