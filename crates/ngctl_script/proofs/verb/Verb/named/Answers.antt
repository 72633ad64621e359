use Rattle.std.proofs.Common.{sym, ◌∙◌}
use Rattle.ngctl_script.proofs.Named.{named_by_prefix}
use Rattle.ngctl_script.proofs.verb.Verb.named.Goals as goal

pub returns-in-None : goal.returns-in-None
returns-in-None c = named_by_prefix c.args.word.now c.only_front.result (sym c.with_text.ensures ∙ c.in-None.is) c.only_front.ensures
