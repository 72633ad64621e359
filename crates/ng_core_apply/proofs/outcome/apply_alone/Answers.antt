use Rattle.std.proofs.Common.{subst}
use Rattle.ng_machine.specs.declared.item.Item.{Item}
use Rattle.ng_machine.specs.Run.{RunState}
use Rattle.ng_machine.specs.World.{NodeRecord}
use Rattle.ng_core_apply.specs.AtHand.{Applies, IsWithin}
use Rattle.ng_core_apply.proofs.outcome.apply_alone.Goals as goal

pub returns-in-Ok-clause-applied : goal.returns-in-Ok-clause-applied
returns-in-Ok-clause-applied g c = λ a node H.
    let applied = subst (λ (x : Item). (a : RunState) (node : NodeRecord) → IsWithin c.args.state.now x a node → Applies g.B.Node.state c.apply_within.new.state x a node c.in-Ok.out) c.part-item.ensures c.in-Ok.ensures.applied in
    applied a node H
