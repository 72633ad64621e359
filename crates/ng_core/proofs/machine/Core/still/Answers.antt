use Rattle.std.proofs.Common.{arith}
use Rattle.std.proofs.lemmas.Grind.{common_steps}
use Rattle.ng_core.specs.CoreStory.{story}
use Rattle.ng_core.specs.Kept.{story_in}
use Rattle.ng_core.proofs.KeptPorts.{kept_count}
use Rattle.ng_core.proofs.Reached.{kept_there}
use Rattle.ng_core.proofs.machine.Core.still.Goals as goal

pub overflow_cast-result : goal.overflow_cast-result
overflow_cast-result g c =
    let count = kept_count c.deref.result.now.state (story (story_in c.deref.result.now)) (kept_there c.deref.ensures c.self.invariant).stands in
    let few = (kept_there c.deref.ensures c.self.invariant).modest.ports in
    grind (arith, common_steps)

pub invariant_of-result : goal.invariant_of-result
invariant_of-result g c = record {
  planned = c.in_ok-plans.ensures;
  few =
      let count = kept_count c.deref.result.now.state (story (story_in c.deref.result.now)) (kept_there c.deref.ensures c.self.invariant).stands in
      let few = (kept_there c.deref.ensures c.self.invariant).modest.ports in
      grind (arith, common_steps);
}
