use Rattle.std.proofs.Common.{◌≡◌, drop}
use Rattle.ng_shape.specs.Shape.{fields_of}
use Rattle.ng_shape.specs.Sound.{has_counts}
use Rattle.ng_shape.proofs.sound.has_counts.Given as goal

abbrev pub invariant-loop-at : goal.invariant-loop-at
invariant-loop-at l = has_counts (fields_of l.fields) l.at (fields_of (drop l.at l.fields)) ≡ has_counts (fields_of l.fields) 0 (fields_of l.fields)
