use Rattle.std.proofs.Common.{◌≡◌, ◌++◌, ◌∷◌, [], length, Ok, false, refl, subst, sym, ap, ◌∙◌, arith}
use Rattle.std.proofs.lemmas.Result.{err_from_is_err_and}
use Rattle.std.proofs.lemmas.Grind.{common_steps}
use Rattle.ng_shape.specs.Shape.{field_number, shape_of, fields_of}
use Rattle.ng_shape.specs.Values.{member_of, members_of, value_of}
use Rattle.ng_shape.proofs.Views.{shape_struct, value_group, members_of_push}
use Rattle.ng_parse.specs.Tokens.{after_word, skip_blanks, word}
use Rattle.ng_parse.specs.Faults.{StopsAt}
use Rattle.ng_parse.specs.Counts.{fill_counts}
use Rattle.ng_parse.specs.Reading.{repeat, member_at, field_at, read_field, read_at, element_at, between, mark_at, Reader, known_field, has}
use Rattle.ng_parse.proofs.Loops.{goes_on, is_last, stops, runs_out}
use Rattle.ng_parse.proofs.Members.{read_field_is, field_stops}
use Rattle.ng_parse.proofs.reading.+read.Goals as goal

pub value_at-returns-in-Struct : goal.value_at-returns-in-Struct
value_at-returns-in-Struct t c = rw (c.in-Struct.is, shape_struct c.in-Struct.fields) c.structure_at.ensures

pub fields_at-returns-in_err-field : goal.fields_at-returns-in_err-field
fields_at-returns-in_err-field t c =
    let step = member_at 125 (field_at (field_number (fields_of c.args.fields.now)) (read_field (fields_of c.args.fields.now))) in
    let text = c.args.text.now in
    let p = err_from_is_err_and c.from_residual.result c.from_residual.ensures.1 in
    rw (p.1, p.2) (stops step c.in_err-field.field-0.0 (length text) c.loop.counter (members_of c.loop.members.items) c.loop.rest.now (repeat step (length text) [] text) c.loop-test.true (rw c.deref.ensures.value at c.in_err-field.ensures) c.loop.invariant)

pub fields_at-returns-in_default : goal.fields_at-returns-in_default
fields_at-returns-in_default t c =
    let step = member_at 125 (field_at (field_number (fields_of c.args.fields.now)) (read_field (fields_of c.args.fields.now))) in
    let text = c.args.text.now in
    is_last step (length text) c.loop.counter (members_of c.loop.members.items) c.loop.rest.now c.in_ok-field.after.now (repeat step (length text) [] text) c.loop-test.true (rw (c.in_default.is, c.deref.ensures.value) at c.in_ok-field.ensures) c.loop.invariant

pub fields_at-loop-preserved : goal.fields_at-loop-preserved
fields_at-loop-preserved t c =
    let step = member_at 125 (field_at (field_number (fields_of c.args.fields.now)) (read_field (fields_of c.args.fields.now))) in
    let text = c.args.text.now in
    let m = c.in-Some.field in
    let e : members_of c.push.new.self.items ≡ members_of c.loop.members.items ++ member_of m ∷ [] = rw c.in_ok-push.ensures.items (members_of_push c.loop.members.items m) in
    rw e (goes_on step (length text) c.loop.counter (members_of c.loop.members.items) c.loop.rest.now (member_of m) c.in_ok-field.after.now (repeat step (length text) [] text) c.loop-test.true (rw (c.in-Some.is, c.deref.ensures.value) at c.in_ok-field.ensures) c.loop.invariant)

pub fields_at-returns : goal.fields_at-returns
fields_at-returns t c =
    let step = member_at 125 (field_at (field_number (fields_of c.args.fields.now)) (read_field (fields_of c.args.fields.now))) in
    let text = c.args.text.now in
    rw c.fault_at.ensures (runs_out step (length text) c.loop.counter (members_of c.loop.members.items) c.loop.rest.now (repeat step (length text) [] text) c.loop-test.false c.loop.invariant)

pub field_at-returns-in_err-tree : goal.field_at-returns-in_err-tree
unfolding field_at
field_at-returns-in_err-tree t c =
    let fs = c.args.fields.now in
    let i = c.in-Some.number in
    let e : StopsAt c.in_err-tree.field-0.0 (read_field (fields_of fs) i c.skip_blanks-2.result.now) = subst (λ (r : Reader). StopsAt c.in_err-tree.field-0.0 (r c.skip_blanks-2.result.now)) (sym (read_field_is fs i _ c.in-Some.ensures.within)) c.in_err-tree.ensures in
    let p = err_from_is_err_and c.from_residual-in_err-tree.result c.from_residual-in_err-tree.ensures.1 in
    let text = c.args.text.now in
    let a : known_field text (word text) (field_number (fields_of fs) (word text)) ≡ Ok i = grind (arith, common_steps) in
    let b : has i (members_of c.args.members.now) ≡ false = grind (arith, common_steps) in
    let m : mark_at 61 (skip_blanks (after_word text)) ≡ Ok c.in_ok-behind.behind.now = grind (arith, common_steps) in
    rw (p.1, p.2) (field_stops (field_number (fields_of fs)) (read_field (fields_of fs)) (members_of c.args.members.now) text i c.in_ok-behind.behind.now c.in_err-tree.field-0.0 a b m (rw c.skip_blanks-2.ensures at e))

pub field_at-returns : goal.field_at-returns
unfolding field_at
field_at-returns t c =
    let fs = c.args.fields.now in
    let i = c.in-Some.number in
    let e : read_field (fields_of fs) i c.skip_blanks-2.result.now ≡ Ok (value_of c.in_ok-tree.tree, c.in_ok-tree.rest.now) = ap (λ (r : Reader). r c.skip_blanks-2.result.now) (read_field_is fs i _ c.in-Some.ensures.within) ∙ c.in_ok-tree.ensures in
    grind (arith, common_steps)

pub structure_at-returns : goal.structure_at-returns
unfolding between read_at
structure_at-returns t c =
    let ps = fields_of c.args.fields.now in
    let given = c.in_ok-given.given in
    let e : repeat (member_at 125 (field_at (field_number ps) (read_field ps))) (length c.in_ok-inside.inside.now) [] c.in_ok-inside.inside.now ≡ Ok (members_of given.items, c.in_ok-given.rest.now) = c.in_ok-given.ensures in
    let f : mark_at 123 c.args.text.now ≡ Ok c.in_ok-inside.inside.now = c.in_ok-inside.ensures in
    let m : members_of c.in_ok-members.members.items ≡ fill_counts ps ps 0 (members_of given.items) = c.in_ok-members.ensures in
    rw (f, e, value_group (length c.args.text.now) c.in_ok-members.members, m) refl

pub elements_at-returns-in_err-item : goal.elements_at-returns-in_err-item
elements_at-returns-in_err-item t c =
    let step = member_at 93 (element_at c.args.count (read_at (shape_of c.args.element.now))) in
    let text = c.args.text.now in
    let p = err_from_is_err_and c.from_residual.result c.from_residual.ensures.1 in
    rw (p.1, p.2) (stops step c.in_err-item.field-0.0 (length text) c.loop.counter (members_of c.loop.members.items) c.loop.rest.now (repeat step (length text) [] text) c.loop-test.true (rw c.deref.ensures.value at c.in_err-item.ensures) c.loop.invariant)

pub elements_at-returns-in_default : goal.elements_at-returns-in_default
elements_at-returns-in_default t c =
    let step = member_at 93 (element_at c.args.count (read_at (shape_of c.args.element.now))) in
    let text = c.args.text.now in
    is_last step (length text) c.loop.counter (members_of c.loop.members.items) c.loop.rest.now c.in_ok-item.after.now (repeat step (length text) [] text) c.loop-test.true (rw (c.in_default.is, c.deref.ensures.value) at c.in_ok-item.ensures) c.loop.invariant

pub elements_at-loop-preserved : goal.elements_at-loop-preserved
elements_at-loop-preserved t c =
    let step = member_at 93 (element_at c.args.count (read_at (shape_of c.args.element.now))) in
    let text = c.args.text.now in
    let m = c.in-Some.item in
    let e : members_of c.push.new.self.items ≡ members_of c.loop.members.items ++ member_of m ∷ [] = rw c.in_ok-push.ensures.items (members_of_push c.loop.members.items m) in
    rw e (goes_on step (length text) c.loop.counter (members_of c.loop.members.items) c.loop.rest.now (member_of m) c.in_ok-item.after.now (repeat step (length text) [] text) c.loop-test.true (rw (c.in-Some.is, c.deref.ensures.value) at c.in_ok-item.ensures) c.loop.invariant)

pub elements_at-returns : goal.elements_at-returns
elements_at-returns t c =
    let step = member_at 93 (element_at c.args.count (read_at (shape_of c.args.element.now))) in
    let text = c.args.text.now in
    rw c.fault_at.ensures (runs_out step (length text) c.loop.counter (members_of c.loop.members.items) c.loop.rest.now (repeat step (length text) [] text) c.loop-test.false c.loop.invariant)

pub array_at-returns : goal.array_at-returns
unfolding between
array_at-returns t c =
    let e : repeat (member_at 93 (element_at c.args.count (read_at (shape_of c.args.element.now)))) (length c.in_ok-inside.inside.now) [] c.in_ok-inside.inside.now ≡ Ok (members_of c.in_ok-members.members.items, c.in_ok-members.rest.now) = c.in_ok-members.ensures in
    let f : mark_at 91 c.args.text.now ≡ Ok c.in_ok-inside.inside.now = c.in_ok-inside.ensures in
    rw (f, e, value_group (length c.args.text.now) c.in_ok-members.members) refl
