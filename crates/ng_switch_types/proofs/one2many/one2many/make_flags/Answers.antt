-- One more byte is a flag.
use Rattle.std.proofs.Common.{ℕ, ◌<◌, length, if◌then◌else◌, ◌==◌, arith}
use Rattle.std.proofs.lemmas.List.{get_or_default}
use Rattle.std.proofs.lemmas.List.Edits.{map_over_more}
use Rattle.ng_switch_types.proofs.one2many.one2many.make_flags.Goals as goal

pub loop-value-preserved : goal.loop-value-preserved
loop-value-preserved c =
    let within : c.loop-value.value-index < length c.args.values.now = omega arith in
    let inside : c.loop-value.value-index < length c.loop-value.values = omega arith in
    let f : ℕ → ℕ = λ value. if value == 0 then 0 else 1 in
    rw c.make_flag.ensures (map_over_more f c.args.values.now c.loop-value.values c.loop-value.value-index _ within c.loop-value.invariant (get_or_default _ _ _ _ inside))
