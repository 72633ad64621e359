use Rattle.std.proofs.Common.{arith}
use Rattle.std.specs.Prelude.{slice_index_or}
use Rattle.ng_journal.specs.declared.kept.short.Short.TheVariants.{Feed}
use Rattle.ng_journal.proofs.kept.Getting.{greats_of_next, one_at_most}
use Rattle.ng_journal.proofs.kept.short.greats_among.Goals as goal

pub loop-short-preserved : goal.loop-short-preserved
loop-short-preserved c =
    let next = greats_of_next c.args.shorts.now c.loop-short.short-index Feed c.loop-short-test.true in
    let count = c.loop-short.invariant.0 in
    let one = c.great-count.ensures in
    let few = one_at_most (slice_index_or c.args.shorts.now c.loop-short.short-index Feed) in
    let before = c.loop-short.invariant.1 in
    (omega (arith, next, count, one), omega (arith, one, few, before))
