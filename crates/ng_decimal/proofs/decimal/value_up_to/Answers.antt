-- A front of the digits says too great a number, and so do all.
use Rattle.std.proofs.Common.{sym, ◌∙◌, arith}
use Rattle.ng_decimal.proofs.Digits.{above, too_great}
use Rattle.ng_decimal.proofs.decimal.value_up_to.Goals as goal

pub returns-in_err-checked_mul : goal.returns-in_err-checked_mul
returns-in_err-checked_mul c =
    let more = above c.loop-byte.number c.loop-byte.byte-index c.args.word.now c.loop-byte-test.true c.loop-byte.invariant.so_far in
    c.from_residual.ensures ∙ sym (too_great c.args.most c.args.word.now (omega (arith, c.in_err-checked_mul.ensures)))

pub returns-in_err-number : goal.returns-in_err-number
returns-in_err-number c =
    let more = above c.loop-byte.number c.loop-byte.byte-index c.args.word.now c.loop-byte-test.true c.loop-byte.invariant.so_far in
    c.from_residual-in_err-number.ensures
    ∙ sym (too_great c.args.most c.args.word.now (omega (arith, c.in_ok-checked_mul.ensures, c.in_err-number.ensures)))

pub returns-then-number-most : goal.returns-then-number-most
returns-then-number-most c =
    let more = above c.loop-byte.number c.loop-byte.byte-index c.args.word.now c.loop-byte-test.true c.loop-byte.invariant.so_far in
    sym (too_great c.args.most c.args.word.now (omega (arith, c.in_ok-checked_mul.ensures, c.in_ok-number.ensures)))
