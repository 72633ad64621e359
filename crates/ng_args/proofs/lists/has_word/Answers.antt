use Rattle.std.proofs.Common.{sym, ◌∙◌}
use Rattle.std.specs.Str.{bytes_eq}
use Rattle.ng_args.proofs.Mapped.{any_mapped}
use Rattle.ng_args.proofs.lists.has_word.Goals as goal

pub returns : goal.returns
returns c = c.is_among.ensures ∙ sym (any_mapped (λ other. bytes_eq other c.args.word.now) (λ other. other.now) c.args.words.now)
