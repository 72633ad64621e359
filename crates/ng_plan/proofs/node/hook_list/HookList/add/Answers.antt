-- A name that was lacking and is added last is what a cut takes out again.
use Rattle.std.proofs.Common.{◌≡◌, ℕ, List, ap, ◌∙◌}
use Rattle.ng_base.proofs.NameLemmas.{without_name-added}
use Rattle.ng_base.specs.Names.{without_name}
use Rattle.ng_plan.proofs.node.hook_list.HookList.add.Goals as goal

pub returns-clause-undone : goal.returns-clause-undone
returns-clause-undone c =
    ap (λ (names : List (List ℕ)). without_name names c.args.name) c.add.ensures
    ∙ rw (← c.self.view_is) (without_name-added c.self.inside.list.names c.args.name (rw (← c.self.view_is) at c.requires.fresh))
