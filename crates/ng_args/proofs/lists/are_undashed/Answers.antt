use Rattle.std.proofs.Common.{sym, ◌∙◌, not, string_bytes}
use Rattle.ng_args.specs.Names.{is_dashed}
use Rattle.ng_args.proofs.Mapped.{all_mapped}
use Rattle.ng_args.proofs.lists.are_undashed.Goals as goal

pub returns : goal.returns
returns c = c.is_none_dashed.ensures ∙ sym (all_mapped (λ word. not (is_dashed word)) (λ word. string_bytes word) c.args.words.now)
