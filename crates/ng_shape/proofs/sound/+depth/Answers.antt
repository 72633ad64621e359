use Rattle.std.proofs.Common.{◌≡◌, ap, ◌∙◌, arith}
use Rattle.std.proofs.lemmas.Bool.Decides.{nat_tests}
use Rattle.ng_shape.specs.Shape.{shape_of, fields_of, Struct}
use Rattle.ng_shape.specs.Sound.{depth_of_fields}
use Rattle.ng_shape.proofs.Views.{shape_struct}
use Rattle.ng_shape.proofs.Depths.{depth_low, one_less}
use Rattle.ng_shape.proofs.sound.+depth.Goals as goal

pub is_at_most-returns-then-deepest-eq0 : goal.is_at_most-returns-then-deepest-eq0
is_at_most-returns-then-deepest-eq0 t c = grind (arith, nat_tests, depth_low (shape_of c.args.shape.now))

pub is_at_most-returns-in-Struct : goal.is_at_most-returns-in-Struct
is_at_most-returns-in-Struct t c =
    let e : shape_of c.args.shape.now ≡ Struct (fields_of c.in-Struct.fields.now) = ap shape_of c.in-Struct.is ∙ shape_struct c.in-Struct.fields in
    rw e (c.are_at_most.ensures ∙ one_less (depth_of_fields (fields_of c.in-Struct.fields.now)) c.args.deepest (omega arith))
