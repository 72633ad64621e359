use Rattle.std.proofs.Common.{◌≡◌, ◌++◌, ◌∷◌, drop}
use Rattle.ng_shape.specs.Shape.{shape_of, fields_of}
use Rattle.ng_shape.specs.Values.{members_of}
use Rattle.ng_parse.specs.Printing.{print, print_fields, print_elements}
use Rattle.ng_parse.proofs.printing.+print.Given as goal

abbrev pub invariant-print_structure-loop-field : goal.invariant-print_structure-loop-field
invariant-print_structure-loop-field l = record {
  at : l.number ≡ l.field-index;
  rest : l.out.items ++ print_fields (fields_of (drop l.field-index l.fields)) (members_of l.members) l.number ≡ l.fn.out.items ++ 123 ∷ print_fields (fields_of l.fields) (members_of l.members) 0;
}

abbrev pub invariant-print_array-loop-member : goal.invariant-print_array-loop-member
invariant-print_array-loop-member l =
    l.out.items ++ print_elements (print (shape_of l.element)) l.next (members_of (drop l.member-index l.members)) ≡ l.fn.out.items ++ 91 ∷ print_elements (print (shape_of l.element)) 0 (members_of l.members)
