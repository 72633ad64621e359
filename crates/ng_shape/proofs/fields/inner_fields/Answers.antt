use Rattle.std.proofs.Common.{◌≡◌, refl, ap, ◌∙◌}
use Rattle.ng_shape.specs.Shape.{shape_of, fields_of, Struct}
use Rattle.ng_shape.proofs.Views.{shape_struct}
use Rattle.ng_shape.proofs.fields.inner_fields.Goals as goal

pub returns-in-Struct : goal.returns-in-Struct
returns-in-Struct c =
    let e : shape_of c.args.shape.now ≡ Struct (fields_of c.in-Struct.fields.now) = ap shape_of c.in-Struct.is ∙ shape_struct c.in-Struct.fields in
    rw e refl
