use Rattle.std.proofs.Common.{◌≡◌}
use Rattle.std.specs.Vec.{vec_len, vec_capacity}
use Rattle.crossbeam_queue.specs.Passes.{view, IsPassOf}
use Rattle.ng_turn.specs.declared.rule.View.TheVariants.{Stock}
use Rattle.ng_turn.specs.Words.{AreFirst}
use Rattle.ng_turn.proofs.turn.Turn.new.Given as goal

-- one pass was made for each seat so far, and the stock knows the others
abbrev pub invariant-loop-seat : goal.invariant-loop-seat
invariant-loop-seat g l = (vec_len l.passes ≡ l.seat) × (vec_capacity l.passes ≡ vec_capacity l.initial.passes)
    × IsPassOf l.place l.stock × (view l.stock ≡ Stock l.fn.value l.seat)
    × AreFirst g.T.Desked.blank g.T.Desked.desk l.place l.fn.value l.passes.items
