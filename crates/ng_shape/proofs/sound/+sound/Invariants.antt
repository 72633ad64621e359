use Rattle.std.proofs.Common.{◌≡◌, drop}
use Rattle.ng_shape.specs.Shape.{fields_of}
use Rattle.ng_shape.specs.Sound.{are_sound}
use Rattle.ng_shape.proofs.sound.+sound.Given as goal

abbrev pub invariant-are_sound-loop-field : goal.invariant-are_sound-loop-field
invariant-are_sound-loop-field l = are_sound (fields_of (drop l.field-index l.fields)) ≡ are_sound (fields_of l.fields)
