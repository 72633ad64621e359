use Rattle.std.proofs.Common.{◌≡◌, drop, nat_le}
use Rattle.ng_shape.specs.Shape.{fields_of}
use Rattle.ng_shape.specs.Sound.{depth_of_fields}
use Rattle.ng_shape.proofs.sound.+depth.Given as goal

abbrev pub invariant-are_at_most-loop-field : goal.invariant-are_at_most-loop-field
invariant-are_at_most-loop-field l = nat_le (depth_of_fields (fields_of (drop l.field-index l.fields))) l.deepest ≡ nat_le (depth_of_fields (fields_of l.fields)) l.deepest
