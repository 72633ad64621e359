use Rattle.std.proofs.Common.{◌<◌, ◌≤◌, ◌^◌}
use Rattle.ng_parse.specs.Tokens.{word, number_in}
use Rattle.ng_parse.specs.Reading.{limit}
use Rattle.ng_parse.proofs.Words.{sized}
use Rattle.ng_parse.proofs.integers.unsigned_at.Goals as goal

pub returns-else-number-limit : goal.returns-else-number-limit
returns-else-number-limit c =
    let text = c.args.text.now in
    let small : c.in-Some.number < limit c.args.bits = rw c.limit-limit.ensures.limit at c.if-number-limit.false in
    let high : limit c.args.bits ≤ 2 ^ 64 = rw c.limit-limit.ensures.limit at c.limit-limit.ensures.high in
    rw c.split_word.ensures.behind (sized (limit c.args.bits) text (number_in (word text)) c.in-Some.number high (rw c.split_word.ensures.front at c.in-Some.ensures) small)
