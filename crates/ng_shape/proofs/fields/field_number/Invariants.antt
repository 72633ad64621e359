use Rattle.std.proofs.Common.{◌≡◌, ◌+◌, drop, option_map}
use Rattle.ng_shape.specs.Shape.{fields_of, field_number}
use Rattle.ng_shape.proofs.fields.field_number.Given as goal

abbrev pub invariant-loop-field : goal.invariant-loop-field
invariant-loop-field l = record {
  at : l.number ≡ l.field-index;
  rest : option_map (λ k. k + l.number) (field_number (fields_of (drop l.field-index l.fields)) l.name) ≡ field_number (fields_of l.fields) l.name;
}
