use Rattle.std.proofs.Common.{◌≡◌, ◌-◌, [], length, drop}
use Rattle.ng_shape.specs.Shape.{shape_of, fields_of}
use Rattle.ng_shape.specs.Values.{count_in, members_of}
use Rattle.ng_shape.specs.Decoding.{array_in, value_in, read_fields}
use Rattle.ng_shape.proofs.decoding.+read.Given as goal

abbrev pub invariant-elements_from-loop-number : goal.invariant-elements_from-loop-number
invariant-elements_from-loop-number l =
    array_in (value_in (shape_of l.element) (count_in (fields_of l.around.fields.now) (members_of l.around.members.now)) l.around.front) l.number (l.count - l.number) (members_of l.members.items) l.rest
    ≡ array_in (value_in (shape_of l.element) (count_in (fields_of l.around.fields.now) (members_of l.around.members.now)) l.around.front) 0 l.count [] l.bytes

abbrev pub invariant-fields_from-loop-field : goal.invariant-fields_from-loop-field
invariant-fields_from-loop-field l = record {
  at : l.number ≡ l.field-index;
  rest : read_fields (fields_of l.fields) (fields_of (drop l.field-index l.fields)) l.number (members_of l.members.items) (length l.bytes) l.rest
      ≡ read_fields (fields_of l.fields) (fields_of l.fields) 0 [] (length l.bytes) l.bytes;
}
