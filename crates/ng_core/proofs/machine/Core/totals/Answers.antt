use Rattle.std.proofs.Common.{List, Option, sym, ap, ◌∙◌, arith}
use Rattle.ng_machine.specs.World.{NodeRecord, node_in}
use Rattle.ng_core.specs.CoreStory.{setting_of}
use Rattle.ng_core.specs.Kept.{story_in}
use Rattle.ng_core.proofs.FewHooks.{hooks_are_few}
use Rattle.ng_core.proofs.Reached.{kept_there}
use Rattle.ng_core.proofs.machine.Core.totals.Goals as goal

pub count_hooks-requires-clause-few : goal.count_hooks-requires-clause-few
count_hooks-requires-clause-few g c κs within = λ id node here.
    let few = hooks_are_few (setting_of (story_in c.deref.result.now)) (story_in c.deref.result.now).journal id.0 node (ap (λ (l : List (Option NodeRecord)). node_in l id) (sym (kept_there c.deref.ensures c.self.invariant).stands.graph.nodes) ∙ here) in
    let applies = (kept_there c.deref.ensures c.self.invariant).low.applies in
    omega arith
