use Rattle.std.proofs.Common.{◌≡◌, length, sym, ap, ◌∙◌, arith}
use Rattle.std.proofs.lemmas.Result.{err_from_is_err_and}
use Rattle.ng_shape.specs.Shape.{shape_of, fields_of, Struct}
use Rattle.ng_shape.specs.Values.{count_in, members_of, value_of}
use Rattle.ng_shape.specs.Decoding.{value_in}
use Rattle.ng_shape.proofs.Views.{shape_struct}
use Rattle.ng_shape.proofs.Given.{nil_is}
use Rattle.ng_shape.proofs.Reading.{takes_none}
use Rattle.ng_shape.proofs.ReadLoops.{array_turn, array_stops, array_still, fields_turn, fields_stop}
use Rattle.ng_shape.proofs.decoding.+read.Goals as goal

pub value_in-returns-in-Struct : goal.value_in-returns-in-Struct
unfolding value_in
value_in-returns-in-Struct t c =
    let e : shape_of c.args.shape.now ≡ Struct (fields_of c.in-Struct.fields.now) = ap shape_of c.in-Struct.is ∙ shape_struct c.in-Struct.fields in
    rw e c.structure_from.ensures

pub value_in-returns-in-Array : goal.value_in-returns-in-Array
unfolding value_in
value_in-returns-in-Array t c = rw c.in-Array.is (rw c.from.ensures at c.array_from.ensures)

pub value_in-returns-in-Counted : goal.value_in-returns-in-Counted
unfolding value_in
value_in-returns-in-Counted t c = rw c.in-Counted.is (rw c.find_count-count.ensures at c.array_from-in-Counted.ensures)

pub elements_from-returns-in_err-tree : goal.elements_from-returns-in_err-tree
elements_from-returns-in_err-tree t c =
    let p = err_from_is_err_and c.from_residual.result c.from_residual.ensures.1 in
    let counts = count_in (fields_of c.args.around.fields.now) (members_of c.args.around.members.now) in
    rw (p.1, p.2) (array_stops (value_in (shape_of c.args.element.now) counts c.args.around.front) c.args.count c.loop-number.number (members_of c.loop-number.members.items) c.loop-number.rest.now c.in_err-tree.field-0.0 _ c.loop-number-test.true c.in_err-tree.ensures c.loop-number.invariant)

pub elements_from-returns-then-after-rest : goal.elements_from-returns-then-after-rest
elements_from-returns-then-after-rest t c =
    let counts = count_in (fields_of c.args.around.fields.now) (members_of c.args.around.members.now) in
    let nil = nil_is (value_of c.in_ok-tree.tree) (sym c.is_absent.ensures ∙ c.if-is_absent.true) in
    let same : c.in_ok-tree.after.now ≡ c.loop-number.rest.now = takes_none (shape_of c.args.element.now) counts c.args.around.front c.loop-number.rest.now c.in_ok-tree.after.now (value_of c.in_ok-tree.tree) c.in_ok-tree.ensures (omega arith) in
    array_still (value_in (shape_of c.args.element.now) counts c.args.around.front) c.args.count c.loop-number.number (members_of c.loop-number.members.items) c.loop-number.rest.now _ (rw (nil, same) at c.in_ok-tree.ensures) c.loop-number.invariant

pub elements_from-loop-number-preserved : goal.elements_from-loop-number-preserved
elements_from-loop-number-preserved t c =
    let counts = count_in (fields_of c.args.around.fields.now) (members_of c.args.around.members.now) in
    array_turn (value_in (shape_of c.args.element.now) counts c.args.around.front) c.args.count c.loop-number.number (members_of c.loop-number.members.items) (members_of c.push_given.new.members.items) c.loop-number.rest.now c.in_ok-tree.after.now (value_of c.in_ok-tree.tree) _
    c.loop-number-test.true c.in_ok-tree.ensures c.in_ok-push_given.ensures c.loop-number.invariant

pub fields_from-returns-in_err-tree : goal.fields_from-returns-in_err-tree
fields_from-returns-in_err-tree t c =
    let p = err_from_is_err_and c.from_residual.result c.from_residual.ensures.1 in
    let ps = fields_of c.args.fields.now in
    rw (p.1, p.2) (fields_stop ps c.args.fields.now c.loop-field.field-index c.loop-field.number (length c.args.bytes.now) _ (members_of c.loop-field.members.items) c.loop-field.rest.now c.in_err-tree.field-0.0 _ c.loop-field-test.true (rw c.deref.ensures.value at c.in_err-tree.ensures) c.loop-field.invariant.rest)

pub fields_from-loop-field-preserved : goal.fields_from-loop-field-preserved
fields_from-loop-field-preserved t c =
    let ps = fields_of c.args.fields.now in
    record {
      at = omega arith;
      rest = fields_turn ps c.args.fields.now c.loop-field.field-index c.loop-field.number (length c.args.bytes.now) _ (members_of c.loop-field.members.items) (members_of c.push_given.new.members.items) c.loop-field.rest.now c.in_ok-tree.after.now (value_of c.in_ok-tree.tree) _
          c.loop-field-test.true (rw c.deref.ensures.value at c.in_ok-tree.ensures) c.in_ok-push_given.ensures c.loop-field.invariant.rest;
    }
