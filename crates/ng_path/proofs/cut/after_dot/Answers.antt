use Rattle.std.proofs.Common.{◌∷◌, []}
use Rattle.std.proofs.lemmas.Bool.Decides.{Decides-eqb}
use Rattle.std.proofs.lemmas.Slice.Eq.{strip_prefix_is}
use Rattle.ng_path.proofs.cut.after_dot.Goals as goal

pub returns : goal.returns
returns c = strip_prefix_is Decides-eqb c.args.bytes.now (0x2e ∷ []) c.strip_prefix.result c.strip_prefix.ensures.cases
