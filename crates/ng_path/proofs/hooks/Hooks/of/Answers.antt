use Rattle.std.proofs.Common.{subst, List, ℕ}
use Rattle.ng_path.specs.Segments.{hook_names}
use Rattle.ng_path.specs.Grammar.{IsHookText}
use Rattle.ng_path.proofs.Joined.{joined_dotted, joined_undotted}
use Rattle.ng_path.proofs.hooks.Hooks.of.Goals as goal

pub invariant_of-result : goal.invariant_of-result
invariant_of-result c =
    joined_dotted c.in-Some.rest.now (hook_names c.args.text.now) (subst (λ (l : List ℕ). IsHookText l (hook_names c.args.text.now)) c.in-Some.ensures c.requires)

pub invariant_of-result-2 : goal.invariant_of-result-2
invariant_of-result-2 c = joined_undotted c.args.text.now (hook_names c.args.text.now) c.in_default.ensures c.requires
