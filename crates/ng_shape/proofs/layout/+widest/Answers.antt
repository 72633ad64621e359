use Rattle.std.proofs.Common.{◌≡◌, ap, ◌∙◌, arith}
use Rattle.ng_shape.specs.Shape.{shape_of, fields_of, Struct}
use Rattle.ng_shape.proofs.Views.{shape_struct}
use Rattle.ng_shape.proofs.Widths.{widest_low}
use Rattle.ng_shape.proofs.layout.+widest.Goals as goal

pub widest-returns-in-Struct-clause-widest : goal.widest-returns-in-Struct-clause-widest
widest-returns-in-Struct-clause-widest t c =
    let e : shape_of c.args.shape.now ≡ Struct (fields_of c.in-Struct.fields.now) = ap shape_of c.in-Struct.is ∙ shape_struct c.in-Struct.fields in
    rw e c.widest_field.ensures.widest

pub widest_field-loop-field-init : goal.widest_field-loop-field-init
widest_field-loop-field-init t c = record { low = omega arith; high = omega arith; all = omega (arith, widest_low (fields_of c.args.fields.now)) }
