use Rattle.std.proofs.Common.{◌≡◌, ap, ◌∙◌}
use Rattle.ng_shape.specs.Shape.{shape_of, fields_of, Struct}
use Rattle.ng_shape.proofs.Views.{shape_struct}
use Rattle.ng_shape.proofs.sound.+sound.Goals as goal

pub is_sound-returns-in-Struct : goal.is_sound-returns-in-Struct
is_sound-returns-in-Struct t c =
    let e : shape_of c.args.shape.now ≡ Struct (fields_of c.in-Struct.fields.now) = ap shape_of c.in-Struct.is ∙ shape_struct c.in-Struct.fields in
    rw e c.is_structure.ensures
