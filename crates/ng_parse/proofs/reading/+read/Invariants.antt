use Rattle.std.proofs.Common.{◌≡◌, ◌-◌, [], length}
use Rattle.ng_shape.specs.Shape.{field_number, shape_of, fields_of}
use Rattle.ng_shape.specs.Values.{members_of}
use Rattle.ng_parse.specs.Reading.{repeat, member_at, field_at, read_field, read_at, element_at}
use Rattle.ng_parse.proofs.reading.+read.Given as goal

abbrev pub invariant-fields_at-loop : goal.invariant-fields_at-loop
invariant-fields_at-loop l =
    let step = member_at 125 (field_at (field_number (fields_of l.fields)) (read_field (fields_of l.fields))) in
    repeat step (length l.text - l.counter) (members_of l.members.items) l.rest ≡ repeat step (length l.text) [] l.text

abbrev pub invariant-elements_at-loop : goal.invariant-elements_at-loop
invariant-elements_at-loop l =
    let step = member_at 93 (element_at l.count (read_at (shape_of l.element))) in
    repeat step (length l.text - l.counter) (members_of l.members.items) l.rest ≡ repeat step (length l.text) [] l.text
