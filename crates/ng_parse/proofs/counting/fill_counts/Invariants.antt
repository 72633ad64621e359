use Rattle.std.proofs.Common.{◌≡◌, drop}
use Rattle.ng_shape.specs.Shape.{fields_of}
use Rattle.ng_shape.specs.Values.{members_of}
use Rattle.ng_parse.specs.Counts.{fill_counts}
use Rattle.ng_parse.proofs.counting.fill_counts.Given as goal

abbrev pub invariant-loop-field : goal.invariant-loop-field
invariant-loop-field l = record {
  at : l.number ≡ l.field-index;
  rest : fill_counts (fields_of l.fields) (fields_of (drop l.field-index l.fields)) l.number (members_of l.members.items) ≡ fill_counts (fields_of l.fields) (fields_of l.fields) 0 (members_of l.fn.members.items);
}
