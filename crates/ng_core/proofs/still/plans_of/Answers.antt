use Rattle.std.proofs.Common.{arith}
use Rattle.std.proofs.lemmas.Grind.{common_steps}
use Rattle.std.specs.Arc.{arc_value}
use Rattle.std.specs.Option.{option_map}
use Rattle.ng_core.proofs.StillPlans.{planned_more}
use Rattle.ng_core.proofs.still.plans_of.Goals as goal

pub loop-n-preserved : goal.loop-n-preserved
loop-n-preserved g c = record {
  count = let before = c.loop-n.invariant.count in grind (arith, common_steps);
  plans =
      planned_more (λ p. option_map arc_value p) c.loop-n.plans.items c.in_ok-plan_at.field-0 c.loop-n.n c.args.graph.now.nodes c.loop-n.invariant.count
      c.in_ok-plan_at.ensures c.loop-n.invariant.plans c.push.new.self.items c.in_ok-push.ensures.items;
}
