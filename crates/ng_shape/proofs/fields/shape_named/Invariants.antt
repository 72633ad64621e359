use Rattle.std.proofs.Common.{◌≡◌, drop}
use Rattle.ng_shape.specs.Shape.{fields_of, shape_named}
use Rattle.ng_shape.proofs.fields.shape_named.Given as goal

abbrev pub invariant-loop-field : goal.invariant-loop-field
invariant-loop-field l = shape_named (fields_of (drop l.field-index l.fields)) l.name ≡ shape_named (fields_of l.fields) l.name
