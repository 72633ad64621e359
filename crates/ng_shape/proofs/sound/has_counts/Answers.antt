use Rattle.std.proofs.Common.{sym, ◌∙◌}
use Rattle.ng_shape.proofs.Counts.{counts_more, counts_stop}
use Rattle.ng_shape.proofs.sound.has_counts.Goals as goal

pub returns-then-not-is_counted_well : goal.returns-then-not-is_counted_well
returns-then-not-is_counted_well c =
    counts_stop c.args.fields.now c.loop-at.at _ _ c.loop-at-test.true (sym c.if-not-is_counted_well.true ∙ c.is_counted_well.ensures) c.loop-at.invariant

pub loop-at-preserved : goal.loop-at-preserved
loop-at-preserved c =
    counts_more c.args.fields.now c.loop-at.at _ _ c.loop-at-test.true (sym c.if-not-is_counted_well.false ∙ c.is_counted_well.ensures) c.loop-at.invariant
