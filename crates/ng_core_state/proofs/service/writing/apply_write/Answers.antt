use Rattle.std.proofs.Common.{sym, subst}
use Rattle.ng_machine.specs.declared.item.Item.{Item}
use Rattle.ng_machine.specs.LowRun.{IsLow}
use Rattle.ng_machine.specs.Run.{RunState}
use Rattle.ng_machine.specs.World.{NodeRecord}
use Rattle.ng_core_state.specs.step.Applied.{IsAtNode, applied_from}
use Rattle.ng_core_state.specs.declared.state.State.{State}
use Rattle.ng_core_state.specs.Stands.{Stands}
use Rattle.ng_core_state.specs.service.Work.{IsWrittenAt}
use Rattle.ng_core_state.proofs.service.writing.apply_write.Goals as goal

pub returns-in-Ok-clause-applied : goal.returns-in-Ok-clause-applied
returns-in-Ok-clause-applied g c = λ a was S at L W.
    let applied = subst (λ (x : Item). (a : RunState) (was : NodeRecord) → Stands c.args.state.now a → IsAtNode a x was → IsLow a.world → IsWrittenAt x was (g.B.Node.state c.args.node) c.args.outcome → Stands c.apply_write_item.new.state (applied_from a x))
    c.deref.ensures c.in-Ok.ensures.applied in
    subst (λ (s : State g.row.B.Denot). Stands s (applied_from a c.args.item)) (sym c.reuse.ensures) (applied a was S at L W)
