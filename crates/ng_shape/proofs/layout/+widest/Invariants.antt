use Rattle.std.proofs.Common.{◌≡◌, ◌<◌, ◌≤◌, drop, max}
use Rattle.ng_shape.specs.Shape.{fields_of}
use Rattle.ng_shape.specs.Layout.{widest_field}
use Rattle.ng_shape.proofs.layout.+widest.Given as goal

abbrev pub invariant-widest_field-loop-field : goal.invariant-widest_field-loop-field
invariant-widest_field-loop-field l = record {
  low : 0 < l.most;
  high : l.most ≤ 8;
  all : max (widest_field (fields_of (drop l.field-index l.fields))) l.most ≡ widest_field (fields_of l.fields);
}
