use Rattle.std.proofs.Common.{◌∙◌, ℕ, List, ◌∷◌, ap}
use Rattle.ng_base.specs.Names.{are_different}
use Rattle.ng_run.proofs.making.make_core.Goals as goal

pub new-requires-clause-names : goal.new-requires-clause-names
new-requires-clause-names g c κs within =
    ap (λ (l : List (List ℕ)). are_different (c.args.words.now.own_name ∷ l)) c.in_ok-ports.ensures
    ∙ c.requires.may.1.differ
