use Rattle.std.proofs.Common.{◌≡◌, drop}
use Rattle.ng_shape.specs.Shape.{fields_of}
use Rattle.ng_shape.specs.Sound.{has_names}
use Rattle.ng_shape.proofs.sound.has_names.Given as goal

abbrev pub invariant-loop-at : goal.invariant-loop-at
invariant-loop-at l = has_names (fields_of (drop l.at l.fields)) ≡ has_names (fields_of l.fields)
