use Rattle.std.proofs.Common.{◌≢◌, ◌<◌, length, sym, ◌∙◌, arith, vec_len}
use Rattle.std.proofs.lemmas.Bool.{eqb-false}
use Rattle.ng_shape.proofs.Views.{value_group}
use Rattle.ng_shape.proofs.Given.{group_some}
use Rattle.ng_shape.proofs.decoding.group_tree.Goals as goal

pub returns : goal.returns
returns c =
    let v = c.args.members in
    let ne : vec_len v ≢ 0 = eqb-false (vec_len v) 0 (sym c.is_empty.ensures ∙ c.if-is_empty.false) in
    let some : 0 < length v.items = omega (arith, v.ok.0) in
    value_group 0 v ∙ group_some v.items some
