use Rattle.std.proofs.Common.{ℕ, List, ◌<◌, length, arith}
use Rattle.std.proofs.lemmas.List.{get_or_default}
use Rattle.std.proofs.lemmas.List.Edits.{map_over_more}
use Rattle.ng_machine.specs.Counters.{zeros}
use Rattle.ng_plain_types.proofs.tee.stats.clear.Goals as goal

pub loop-row-preserved : goal.loop-row-preserved
loop-row-preserved c =
    let within : c.loop-row.row-index < length c.args.rows.now = omega arith in
    let inside : c.loop-row.row-index < length c.loop-row.rows = omega arith in
    let f : List ℕ × List ℕ → List ℕ × List ℕ = λ row. (row.0, zeros 4) in
    rw c.clear_row.ensures (map_over_more f c.args.rows.now c.loop-row.rows c.loop-row.row-index _ within c.loop-row.invariant (get_or_default _ _ _ _ inside))
