use Rattle.std.proofs.Common.{◌∙◌}
use Rattle.ng_core.specs.CoreStory.{story}
use Rattle.ng_workers.proofs.pool.Emptying.{back_more, empty_more}
use Rattle.ng_workers.proofs.pool.choosing.give_back.Goals as goal

pub loop-seat-preserved : goal.loop-seat-preserved
loop-seat-preserved g c =
    let inv = c.loop-seat.invariant in (
      back_more c.args.seats c.loop-seat.seat (story c.loop-seat.core) (story c.put_back.new.core) c.loop-seat-test.true c.put_back.ensures.back ∙ inv.0,
      c.put_back.ensures.holds,
      empty_more c.loop-seat.held c.put_back.new.held c.loop-seat.seat inv.2 c.put_back.ensures.empty c.put_back.ensures.others,
      c.put_back.ensures.ends ∙ inv.3,
      c.put_back.ensures.setting ∙ inv.4,
      c.put_back.ensures.len ∙ inv.5,
      c.put_back.ensures.seats ∙ inv.6,
    )
