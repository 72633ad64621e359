use Rattle.std.proofs.Common.{◌≡◌, drop}
use Rattle.ng_shape.specs.Shape.{count_field_of, fields_of}
use Rattle.ng_shape.specs.Sound.{counts}
use Rattle.ng_shape.proofs.sound.counts.Given as goal

abbrev pub invariant-loop-field : goal.invariant-loop-field
invariant-loop-field l = counts (count_field_of l.by) (fields_of (drop l.field-index l.fields)) ≡ counts (count_field_of l.by) (fields_of l.fields)
