use Rattle.std.proofs.Common.{◌≡◌, ◌≤◌, length, vec_len, ap, ◌∙◌, arith}
use Rattle.ng_shape.specs.Shape.{shape_of, fields_of, Struct}
use Rattle.ng_shape.specs.Values.{count_in, members_of}
use Rattle.ng_shape.specs.Layout.{layout}
use Rattle.ng_shape.proofs.Views.{shape_struct}
use Rattle.ng_shape.proofs.WriteLoops.{array_more, array_done, fields_more, fields_done, longer}
use Rattle.ng_shape.proofs.layout.+put.Goals as goal

pub put-returns-in-Struct : goal.put-returns-in-Struct
unfolding layout
put-returns-in-Struct t c =
    let e : shape_of c.args.shape.now ≡ Struct (fields_of c.in-Struct.fields.now) = ap shape_of c.in-Struct.is ∙ shape_struct c.in-Struct.fields in
    rw e c.put_structure.ensures

pub put_any-loop-number-preserved : goal.put_any-loop-number-preserved
put_any-loop-number-preserved t c =
    let out = c.loop-number.out in
    let len : vec_len out ≡ length out.items = out.ok.0 in
    let counts = count_in (fields_of c.args.within.fields.now) (members_of c.args.within.members.now) in
    let wrote = rw (c.find_member.ensures, len) at c.in_ok-put.ensures in
    let long : length out.items ≤ length c.put.new.out.items = longer out.items _ c.put.new.out.items wrote in
    record {
      front = omega (arith, len, c.put.new.out.ok.0);
      bytes = array_more (layout (shape_of c.args.element.now) counts) (members_of c.args.members.now) c.args.count c.loop-number.number c.args.within.front out.items _ _ c.loop-number-test.true (omega arith) wrote c.loop-number.invariant.bytes;
    }

pub put_any-returns : goal.put_any-returns
put_any-returns t c =
    let counts = count_in (fields_of c.args.within.fields.now) (members_of c.args.within.members.now) in
    let len : vec_len c.args.out.now ≡ length c.args.out.now.items = c.args.out.now.ok.0 in
    rw len (array_done (layout (shape_of c.args.element.now) counts) (members_of c.args.members.now) c.args.count c.loop-number.number _ c.loop-number.out.items _ c.loop-number-test.false c.loop-number.invariant.bytes)

pub put_ascending-loop-number-preserved : goal.put_ascending-loop-number-preserved
put_ascending-loop-number-preserved t c =
    let out = c.loop-number.out in
    let number = c.loop-number.number in
    let len : vec_len out ≡ length out.items = out.ok.0 in
    let counts = count_in (fields_of c.args.within.fields.now) (members_of c.args.within.members.now) in
    let wrote = rw (c.front_member.ensures.found, c.loop-number.invariant.later number (omega arith), len) at c.in_ok-put.ensures in
    let long : length out.items ≤ length c.put.new.out.items = longer out.items _ c.put.new.out.items wrote in
    record {
      front = omega (arith, len, c.put.new.out.ok.0);
      ascending = c.front_member.ensures.ascending;
      later = λ i le. c.front_member.ensures.later i (omega arith) ∙ c.loop-number.invariant.later i (omega arith);
      bytes = array_more (layout (shape_of c.args.element.now) counts) (members_of c.args.members.now) c.args.count number c.args.within.front out.items _ _ c.loop-number-test.true (omega arith) wrote c.loop-number.invariant.bytes;
    }

pub put_ascending-returns : goal.put_ascending-returns
put_ascending-returns t c =
    let counts = count_in (fields_of c.args.within.fields.now) (members_of c.args.within.members.now) in
    let len : vec_len c.args.out.now ≡ length c.args.out.now.items = c.args.out.now.ok.0 in
    rw len (array_done (layout (shape_of c.args.element.now) counts) (members_of c.args.members.now) c.args.count c.loop-number.number _ c.loop-number.out.items _ c.loop-number-test.false c.loop-number.invariant.bytes)

pub put_fields-loop-field-preserved : goal.put_fields-loop-field-preserved
put_fields-loop-field-preserved t c =
    let out = c.loop-field.out in
    let fs = c.args.fields.now in
    let ms = members_of c.args.members.now in
    let len : vec_len out ≡ length out.items = out.ok.0 in
    let wrote = rw (c.find_member.ensures, len) at c.in_ok-put.ensures in
    let long : length out.items ≤ length c.put.new.out.items = longer out.items _ c.put.new.out.items wrote in
    record {
      at = omega arith;
      front = omega (arith, len, c.put.new.out.ok.0);
      bytes = fields_more fs (count_in (fields_of fs) ms) ms c.loop-field.field-index c.loop-field.number c.len.result _ out.items _ _ c.loop-field-test.true (omega arith) wrote c.loop-field.invariant.bytes;
    }

pub put_fields-returns : goal.put_fields-returns
put_fields-returns t c =
    let fs = c.args.fields.now in
    let ms = members_of c.args.members.now in
    fields_done fs (count_in (fields_of fs) ms) ms c.loop-field.field-index c.loop-field.number _ c.loop-field.out.items _ c.loop-field-test.false c.loop-field.invariant.bytes
