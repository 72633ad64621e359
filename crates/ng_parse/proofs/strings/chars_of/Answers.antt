use Rattle.std.proofs.Common.{length, []}
use Rattle.std.proofs.lemmas.Result.{err_from_is_err_and}
use Rattle.ng_parse.specs.Reading.{repeat, string_char}
use Rattle.ng_parse.proofs.Loops.{goes_on, is_last, stops, runs_out}
use Rattle.ng_parse.proofs.strings.chars_of.Goals as goal

pub returns-in_err-byte : goal.returns-in_err-byte
returns-in_err-byte c =
    let step = string_char c.args.n c.args.whole.now in
    let text = c.args.text.now in
    let p = err_from_is_err_and c.from_residual.result c.from_residual.ensures.1 in
    rw (p.1, p.2) (stops step c.in_err-byte.field-0.0 (length text) c.loop.counter c.loop.chars.items c.loop.rest.now (repeat step (length text) [] text) c.loop-test.true (rw c.deref.ensures.value at c.in_err-byte.ensures) c.loop.invariant)

pub returns-in_default : goal.returns-in_default
returns-in_default c =
    let step = string_char c.args.n c.args.whole.now in
    let text = c.args.text.now in
    is_last step (length text) c.loop.counter c.loop.chars.items c.loop.rest.now c.in_ok-byte.after.now (repeat step (length text) [] text) c.loop-test.true (rw (c.in_default.is, c.deref.ensures.value) at c.in_ok-byte.ensures) c.loop.invariant

pub loop-preserved : goal.loop-preserved
loop-preserved c =
    let step = string_char c.args.n c.args.whole.now in
    let text = c.args.text.now in
    rw c.in_ok-push.ensures.items (goes_on step (length text) c.loop.counter c.loop.chars.items c.loop.rest.now c.in-Some.byte c.in_ok-byte.after.now (repeat step (length text) [] text) c.loop-test.true (rw (c.in-Some.is, c.deref.ensures.value) at c.in_ok-byte.ensures) c.loop.invariant)

pub returns : goal.returns
returns c =
    let step = string_char c.args.n c.args.whole.now in
    let text = c.args.text.now in
    rw c.fault_at.ensures (runs_out step (length text) c.loop.counter c.loop.chars.items c.loop.rest.now (repeat step (length text) [] text) c.loop-test.false c.loop.invariant)
