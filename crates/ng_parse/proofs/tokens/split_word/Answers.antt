use Rattle.std.proofs.Common.{◌∙◌, ap, take}
use Rattle.ng_parse.proofs.Words.{word_front}
use Rattle.ng_parse.proofs.tokens.split_word.Goals as goal

pub returns-clause-front : goal.returns-clause-front
returns-clause-front c = c.split_at.ensures.front ∙ ap (λ n. take n c.args.text.now) c.word_len.ensures.len ∙ word_front c.args.text.now
