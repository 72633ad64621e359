-- A digit more behind a number makes ten times the number and the digit.
use Rattle.std.proofs.Common.{ℕ, ◌+◌, ◌*◌, ◌++◌, drop, sym, ap, ◌∙◌, arith}
use Rattle.std.specs.Fmt.{decimal}
use Rattle.ng_journal.proofs.Fronts.{digit_more, one_on, room_for_digit}
use Rattle.ng_journal.proofs.front.more_digits.Goals as goal

pub overflow_mul-number : goal.overflow_mul-number
overflow_mul-number c =
    let room = room_for_digit c.loop-end.number c.loop-end.end c.loop-end.invariant.short (omega arith) in
    omega arith

pub overflow_add-number : goal.overflow_add-number
overflow_add-number c =
    let room = room_for_digit c.loop-end.number c.loop-end.end c.loop-end.invariant.short (omega arith) in
    let digit = c.if-is_ascii_digit.ensures.cases in
    omega (arith, digit)

pub loop-end-preserved : goal.loop-end-preserved
loop-end-preserved c =
    let number = c.loop-end.number in
    let end = c.loop-end.end in
    let text = c.args.text.now in
    let digit = c.if-is_ascii_digit.ensures.cases in
    let value = c.from.ensures in
    let within = c.loop-end-test.true in
    let room = room_for_digit number end c.loop-end.invariant.short (omega arith) in
    record {
      digits = c.loop-end.invariant.digits
          ∙ one_on number end text (omega arith) (omega arith) (omega (arith, digit)) (omega (arith, digit)) (omega (arith, digit))
          ∙ ap (λ (n : ℕ). decimal (number * 10 + n) ++ drop (end + 1) text) (sym value);
      some = omega arith;
      short = digit_more number c.from.result end c.loop-end.invariant.short (omega (arith, digit));
      within = omega arith;
    }
