use Rattle.std.proofs.Common.{◌≡◌, drop}
use Rattle.ng_shape.specs.Shape.{shape_of, fields_of}
use Rattle.ng_shape.specs.Values.{members_of}
use Rattle.ng_parse.specs.Counts.{count_value, first_fault, wrong_count, wrong_count_in}
use Rattle.ng_parse.proofs.counting.+count.Given as goal

abbrev pub invariant-wrong_count_in-loop-field : goal.invariant-wrong_count_in-loop-field
invariant-wrong_count_in-loop-field l = record {
  at : l.number ≡ l.field-index;
  rest : wrong_count_in (fields_of (drop l.field-index l.fields)) (count_value (fields_of l.fields) (members_of l.members)) (members_of l.members) l.number
      ≡ wrong_count_in (fields_of l.fields) (count_value (fields_of l.fields) (members_of l.members)) (members_of l.members) 0;
}

abbrev pub invariant-first_fault-loop-member : goal.invariant-first_fault-loop-member
invariant-first_fault-loop-member l =
    first_fault (wrong_count (shape_of l.element) (count_value (fields_of l.around.fields.now) (members_of l.around.members.now))) (members_of (drop l.member-index l.members))
    ≡ first_fault (wrong_count (shape_of l.element) (count_value (fields_of l.around.fields.now) (members_of l.around.members.now))) (members_of l.members)
