-- The first digit, and what its number goes on to.
use Rattle.std.proofs.Common.{arith}
use Rattle.ng_journal.proofs.Fronts.{zero_first, digits_first}
use Rattle.ng_journal.proofs.front.front_number.Goals as goal

pub returns-in-48 : goal.returns-in-48
returns-in-48 c = zero_first c.args.text.now c.in-48.len_at_least (omega arith)

pub returns-in-49-to-57 : goal.returns-in-49-to-57
returns-in-49-to-57 c =
    let value = c.from.ensures in
    digits_first c.from.result c.more_digits.result.0 c.args.text.now c.more_digits.result.1.now c.in-49-to-57.len_at_least
    (omega arith) (omega arith) c.more_digits.ensures.digits c.more_digits.ensures.low
