use Rattle.std.proofs.Common.{sym, ◌∙◌, not, map}
use Rattle.ng_args.specs.Lists.{has_word}
use Rattle.ng_args.proofs.Mapped.{all_mapped}
use Rattle.ng_args.proofs.lists.are_apart.Goals as goal

pub returns : goal.returns
returns c = c.is_none_among.ensures ∙ sym (all_mapped (λ word. not (has_word (map (λ other. other.now) c.args.others.now) word)) (λ word. word.now) c.args.words.now)
