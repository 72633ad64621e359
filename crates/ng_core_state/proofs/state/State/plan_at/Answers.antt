use Rattle.std.proofs.Common.{◌∙◌, refl, sym, subst}
use Rattle.std.specs.Prelude.{IsSome}
use Rattle.std.specs.declared.option.Option.{Option}
use Rattle.ng_machine.specs.declared.item.Item.{Item}
use Rattle.ng_machine.specs.World.{NodeRecord, node_in}
use Rattle.ng_core_state.proofs.TakenItems.{least_node, same_some}
use Rattle.ng_core_state.proofs.state.State.plan_at.Goals as goal

pub plan-requires-clause-there : goal.plan-requires-clause-there
plan-requires-clause-there g c κs within =
    let L = least_node c.args.self.now c.requires.standing.0 c.args.at c.requires.standing.1 c.requires.least in
    subst (λ (x : Item). IsSome (node_in c.args.self.now.graph.nodes x.to)) (same_some L.item c.head.result.now (sym L.head_is ∙ c.head.ensures))
    (subst (λ (o : Option NodeRecord). IsSome o) (sym L.at.here) refl)
