use Rattle.std.proofs.Common.{◌≡◌, ◌≤◌, ◌-◌, ◌++◌, ℕ, true, drop, length, vec_len}
use Rattle.ng_shape.specs.Shape.{shape_of, fields_of}
use Rattle.ng_shape.specs.Values.{are_ascending, count_in, find, members_of}
use Rattle.ng_shape.specs.Layout.{layout, fields_bytes, array_bytes}
use Rattle.ng_shape.proofs.layout.+put.Given as goal

abbrev pub invariant-put_any-loop-number : goal.invariant-put_any-loop-number
invariant-put_any-loop-number l = record {
  front : l.within.front ≤ vec_len l.out;
  bytes : l.out.items ++ array_bytes (layout (shape_of l.element) (count_in (fields_of l.within.fields.now) (members_of l.within.members.now))) (members_of l.members) l.number (l.count - l.number) (length l.out.items - l.within.front)
      ≡ l.fn.out.items ++ array_bytes (layout (shape_of l.element) (count_in (fields_of l.within.fields.now) (members_of l.within.members.now))) (members_of l.members) 0 l.count (length l.fn.out.items - l.within.front);
}

abbrev pub invariant-put_ascending-loop-number : goal.invariant-put_ascending-loop-number
invariant-put_ascending-loop-number l = record {
  front : l.within.front ≤ vec_len l.out;
  ascending : are_ascending l.number (members_of l.rest) ≡ true;
  later : (i : ℕ) → l.number ≤ i → find i (members_of l.rest) ≡ find i (members_of l.members);
  bytes : l.out.items ++ array_bytes (layout (shape_of l.element) (count_in (fields_of l.within.fields.now) (members_of l.within.members.now))) (members_of l.members) l.number (l.count - l.number) (length l.out.items - l.within.front)
      ≡ l.fn.out.items ++ array_bytes (layout (shape_of l.element) (count_in (fields_of l.within.fields.now) (members_of l.within.members.now))) (members_of l.members) 0 l.count (length l.fn.out.items - l.within.front);
}

abbrev pub invariant-put_fields-loop-field : goal.invariant-put_fields-loop-field
invariant-put_fields-loop-field l = record {
  at : l.number ≡ l.field-index;
  front : l.within.front ≤ vec_len l.out;
  bytes : l.out.items ++ fields_bytes (fields_of (drop l.field-index l.fields)) (count_in (fields_of l.fields) (members_of l.members)) (members_of l.members) l.number (length l.out.items - l.within.front)
      ≡ l.fn.out.items ++ fields_bytes (fields_of l.fields) (count_in (fields_of l.fields) (members_of l.members)) (members_of l.members) 0 0;
}
