use Rattle.crossbeam_queue.specs.Passes.{view, IsPassOf}
use Rattle.ng_turn.specs.Words.{IsPassAt}
use Rattle.ng_turn.proofs.Passes.{Gathered, EachAt}
use Rattle.ng_turn.proofs.turn.Turn.end.Given as goal

-- each pass is left, or its desk was gathered
abbrev pub invariant-loop-pass : goal.invariant-loop-pass
invariant-loop-pass g l = IsPassOf l.place l.ticket × Gathered g.T.Desked.blank l.fn.passes.items l.passes.items (view l.ticket)
    × EachAt (λ k pass. IsPassAt g.T.Desked.blank l.place pass) l.passes.items

abbrev pub decreases-loop-pass : goal.decreases-loop-pass
decreases-loop-pass g l = goal.left-loop-pass g l
