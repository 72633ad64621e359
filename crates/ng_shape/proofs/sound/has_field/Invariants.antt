use Rattle.std.proofs.Common.{◌≡◌, drop}
use Rattle.ng_shape.specs.Shape.{fields_of}
use Rattle.ng_shape.specs.Sound.{has_field}
use Rattle.ng_shape.proofs.sound.has_field.Given as goal

abbrev pub invariant-loop-field : goal.invariant-loop-field
invariant-loop-field l = has_field l.name (fields_of (drop l.field-index l.fields)) ≡ has_field l.name (fields_of l.fields)
