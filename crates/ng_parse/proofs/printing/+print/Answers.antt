use Rattle.std.proofs.Common.{◌≡◌, ℕ, List, ◌++◌, ◌∷◌, [], sym, ap, ◌∙◌, append_assoc, arith}
use Rattle.std.proofs.lemmas.List.{append-nil}
use Rattle.ng_shape.specs.Shape.{shape_of, fields_of, Struct}
use Rattle.ng_shape.specs.Values.{members_of}
use Rattle.ng_shape.proofs.Views.{shape_struct}
use Rattle.ng_parse.specs.Printing.{print, print_fields, print_elements}
use Rattle.ng_parse.proofs.Turns.{printed_turn, printed_end, elements_end}
use Rattle.ng_parse.proofs.printing.+print.Goals as goal

pub print-returns-in-Struct : goal.print-returns-in-Struct
unfolding print
print-returns-in-Struct t c =
    let e : shape_of c.args.shape.now ≡ Struct (fields_of c.in-Struct.fields.now) = ap shape_of c.in-Struct.is ∙ shape_struct c.in-Struct.fields in
    rw e (rw c.inner_members.ensures at c.print_structure.ensures)

pub print_structure-loop-field-preserved : goal.print_structure-loop-field-preserved
print_structure-loop-field-preserved t c =
    let fs = c.args.fields.now in
    let ms = members_of c.args.members.now in
    let wrote = rw c.find_member.ensures at c.in_ok-print_field.ensures in
    record {
      at = omega arith;
      rest = printed_turn fs ms c.loop-field.field-index c.loop-field.number _ c.loop-field.out.items _ _ c.loop-field-test.true wrote c.loop-field.invariant.rest;
    }

pub print_structure-returns : goal.print_structure-returns
print_structure-returns t c =
    let fs = c.args.fields.now in
    let ms = members_of c.args.members.now in
    let done = printed_end fs ms c.loop-field.field-index c.loop-field.number c.loop-field-test.false in
    let all : c.loop-field.out.items ++ [] ≡ c.args.out.now.items ++ 123 ∷ print_fields (fields_of fs) ms 0 = rw done at c.loop-field.invariant.rest in
    c.in_ok-extend_from_slice.ensures.items ∙ ap (λ (x : List ℕ). x ++ 32 ∷ 125 ∷ []) (sym (append-nil c.loop-field.out.items) ∙ all) ∙ append_assoc c.args.out.now.items (123 ∷ print_fields (fields_of fs) ms 0) (32 ∷ 125 ∷ [])

pub print_array-returns : goal.print_array-returns
print_array-returns t c =
    let ms = c.args.members.now in
    let p = print (shape_of c.args.element.now) in
    let done = elements_end p ms c.loop-member.member-index c.loop-member.next c.loop-member-test.false in
    let all : c.loop-member.out.items ++ [] ≡ c.args.out.now.items ++ 91 ∷ print_elements p 0 (members_of ms) = rw done at c.loop-member.invariant in
    c.in_ok-extend_from_slice.ensures.items ∙ ap (λ (x : List ℕ). x ++ 32 ∷ 93 ∷ []) (sym (append-nil c.loop-member.out.items) ∙ all) ∙ append_assoc c.args.out.now.items (91 ∷ print_elements p 0 (members_of ms)) (32 ∷ 93 ∷ [])
