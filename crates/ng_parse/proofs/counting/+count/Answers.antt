use Rattle.std.proofs.Common.{◌≡◌, ap, sym, ◌∙◌, arith}
use Rattle.ng_shape.specs.Shape.{shape_of, fields_of, Struct}
use Rattle.ng_shape.specs.Values.{members_of}
use Rattle.ng_shape.proofs.Views.{shape_struct}
use Rattle.ng_parse.specs.Counts.{count_value, wrong_count}
use Rattle.ng_parse.proofs.Turns.{count_found, count_passed, count_end}
use Rattle.ng_parse.proofs.counting.+count.Goals as goal

pub wrong_count-returns-in-Struct : goal.wrong_count-returns-in-Struct
unfolding wrong_count
wrong_count-returns-in-Struct t c =
    let e : shape_of c.args.shape.now ≡ Struct (fields_of c.in-Struct.fields.now) = ap shape_of c.in-Struct.is ∙ shape_struct c.in-Struct.fields in
    rw e (rw c.inner_members.ensures at c.wrong_count_in.ensures)

pub wrong_count_in-returns-then-is_some : goal.wrong_count_in-returns-then-is_some
wrong_count_in-returns-then-is_some t c =
    let fs = c.args.fields.now in
    let ms = members_of c.args.members.now in
    count_found fs (count_value (fields_of fs) ms) ms c.loop-field.field-index c.loop-field.number _ c.wrong_count-fault.result _ c.loop-field-test.true (sym c.is_some.ensures ∙ c.if-is_some.true) (rw c.find_member.ensures at c.wrong_count-fault.ensures) c.loop-field.invariant.rest

pub wrong_count_in-loop-field-preserved : goal.wrong_count_in-loop-field-preserved
wrong_count_in-loop-field-preserved t c =
    let fs = c.args.fields.now in
    let ms = members_of c.args.members.now in
    record {
      at = omega arith;
      rest = count_passed fs (count_value (fields_of fs) ms) ms c.loop-field.field-index c.loop-field.number _ c.wrong_count-fault.result _ c.loop-field-test.true (sym c.is_some.ensures ∙ c.if-is_some.false) (rw c.find_member.ensures at c.wrong_count-fault.ensures) c.loop-field.invariant.rest;
    }

pub wrong_count_in-returns : goal.wrong_count_in-returns
wrong_count_in-returns t c =
    let fs = c.args.fields.now in
    let ms = members_of c.args.members.now in
    count_end fs (count_value (fields_of fs) ms) ms c.loop-field.field-index c.loop-field.number _ c.loop-field-test.false c.loop-field.invariant.rest
