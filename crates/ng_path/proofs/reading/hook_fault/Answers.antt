-- Each part is looked at once, and the fault of what is left is that of the whole.
use Rattle.std.proofs.Common.{sym, ◌∙◌, ap, length, length-append, arith}
use Rattle.std.proofs.lemmas.Bool.{iff_false}
use Rattle.ng_path.proofs.Walks.{is_first}
use Rattle.ng_path.proofs.Joined.{hook_text_of}
use Rattle.ng_path.proofs.Steps.{at_bad, at_end, at_two, at_next}
use Rattle.ng_path.proofs.reading.hook_fault.Goals as goal

pub returns-then-is_bad : goal.returns-then-is_bad
returns-then-is_bad c =
    let told = at_bad c.parts.at c.parts.rest.now c.cut.result.0.now c.cut.result.1 c.cut.ensures.parts (c.is_bad.ensures.0 c.if-is_bad.true) in
    is_first c.args.place c.args.text.now _ (sym c.parts.invariant.0 ∙ told)

pub returns-in_default : goal.returns-in_default
returns-in_default c =
    let parts = rw c.in_default.is at c.cut.ensures.parts in
    let clean = at_end c.parts.at c.parts.rest.now c.cut.result.0.now parts (iff_false c.is_bad.ensures c.if-is_bad.false) in
    hook_text_of c.args.place c.args.text.now (sym c.parts.invariant.0 ∙ clean)

pub returns-then-starts_with_dot : goal.returns-then-starts_with_dot
returns-then-starts_with_dot c =
    let parts = rw c.in-Some.is at c.cut.ensures.parts in
    let told = at_two c.parts.at c.parts.rest.now c.cut.result.0.now c.in-Some.after.now parts (iff_false c.is_bad.ensures c.if-is_bad.false) (c.starts_with_dot.ensures.0 c.if-starts_with_dot.true) in
    is_first c.args.place c.args.text.now _ (sym c.parts.invariant.0 ∙ told)

pub parts-preserved : goal.parts-preserved
parts-preserved c =
    let parts = rw c.in-Some.is at c.cut.ensures.parts in
    let whole = rw c.in-Some.is at c.cut.ensures.whole in
    let next = at_next c.parts.at c.parts.rest.now c.cut.result.0.now c.in-Some.after.now parts (iff_false c.is_bad.ensures c.if-is_bad.false) (iff_false c.starts_with_dot.ensures c.if-starts_with_dot.false) in
    let size = ap length whole in
    (sym next ∙ c.parts.invariant.0, (let room = c.parts.invariant.1 in omega (arith, simp length-append at size)))
