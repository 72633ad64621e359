-- Each digit is read once; at most eight of them fit.
use Rattle.std.proofs.Common.{◌≡◌, ◌<◌, ℕ, subst, sym, ap, ◌∙◌, get_or, arith}
use Rattle.std.specs.Char.{digit_value}
use Rattle.std.proofs.lemmas.Int.Digits.{digits_value_more, digits_more}
use Rattle.ng_path.proofs.Digits.{room, digit_at}
use Rattle.ng_path.proofs.reading.read_hex.Goals as goal

pub overflow_mul-number : goal.overflow_mul-number
overflow_mul-number c =
    let below = room c.args.digits.now c.loop-byte.byte-index c.loop-byte-test.true c.requires c.loop-byte.invariant.0 in
    let value = c.loop-byte.invariant.1 in
    omega arith

pub overflow_add-number : goal.overflow_add-number
overflow_add-number c =
    let below = room c.args.digits.now c.loop-byte.byte-index c.loop-byte-test.true c.requires c.loop-byte.invariant.0 in
    let value = c.loop-byte.invariant.1 in
    let digit = c.in_ok-number.ensures.value in
    let small : c.in_ok-number.field-0 < 16 = (let less = digit.0 in let same = digit.1 in omega arith) in
    omega arith

pub returns-in_err-number : goal.returns-in_err-number
returns-in_err-number c =
    rw c.from_residual.ensures
    (λ all. c.in_err-number.ensures.value (subst (λ (b : ℕ). digit_value b < 16) (sym c.from.ensures) (digit_at c.args.digits.now c.loop-byte.byte-index all c.loop-byte-test.true)))

pub loop-byte-preserved : goal.loop-byte-preserved
loop-byte-preserved c =
    let digit = c.in_ok-number.ensures.value in
    let small = subst (λ (b : ℕ). digit_value b < 16) c.from.ensures digit.0 in
    let same : c.in_ok-number.field-0 ≡ digit_value (get_or c.args.digits.now c.loop-byte.byte-index 0) = digit.1 ∙ ap digit_value c.from.ensures in
    let more = digits_value_more 16 c.args.digits.now c.loop-byte.byte-index c.loop-byte-test.true in
    let value = c.loop-byte.invariant.1 in
    (digits_more 16 c.args.digits.now c.loop-byte.byte-index c.loop-byte-test.true c.loop-byte.invariant.0 small, omega arith)
