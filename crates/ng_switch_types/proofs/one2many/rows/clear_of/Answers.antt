-- One more row is looked at.
use Rattle.std.proofs.Common.{ℕ, List, ◌<◌, length, if◌then◌else◌, arith}
use Rattle.std.specs.Str.{bytes_eq}
use Rattle.std.proofs.lemmas.List.{get_or_default}
use Rattle.std.proofs.lemmas.List.Edits.{map_over_more}
use Rattle.ng_machine.specs.Counters.{zeros}
use Rattle.ng_switch_types.proofs.one2many.rows.clear_of.Goals as goal

pub loop-row-preserved : goal.loop-row-preserved
loop-row-preserved c =
    let within : c.loop-row.row-index < length c.args.rows.now = omega arith in
    let inside : c.loop-row.row-index < length c.loop-row.rows = omega arith in
    let f : List ℕ × List ℕ → List ℕ × List ℕ = λ row. if bytes_eq row.0 c.args.hook.now then (row.0, zeros 5) else row in
    rw c.clear_if.ensures (map_over_more f c.args.rows.now c.loop-row.rows c.loop-row.row-index _ within c.loop-row.invariant (get_or_default _ _ _ _ inside))
