use Rattle.std.proofs.Common.{◌<◌, get_or, take, ◌∙◌, subst, arith}
use Rattle.std.specs.Char.{digit_value}
use Rattle.std.specs.Str.Parse.{digits_value}
use Rattle.std.proofs.lemmas.Int.Digits.{digits_value_more}
use Rattle.ng_parse.proofs.Words.{digit_more}
use Rattle.ngctl_script.proofs.Digits.{capped_more}
use Rattle.ngctl_script.proofs.marks.digits_of.Goals as goal

pub loop-byte-preserved : goal.loop-byte-preserved
loop-byte-preserved c =
    let r = c.args.radix in
    let ds = c.args.digits.now in
    let i = c.loop-byte.byte-index in
    let h = c.in_ok-digit.ensures.value in
    let small : digit_value (get_or ds i 0) < r = subst (λ x. digit_value x < r) c.from.ensures h.0 in
    let more = digits_value_more r ds i c.loop-byte-test.true in
    record {
      some = c.loop-byte.invariant.some;
      rest = digit_more r ds i c.loop-byte-test.true small ∙ c.loop-byte.invariant.rest;
      front = c.min-number.ensures
          ∙ rw (c.loop-byte.invariant.front, h.1, c.from.ensures, more)
          (capped_more (digits_value r (take i ds)) r (digit_value (get_or ds i 0)) (omega arith));
    }
