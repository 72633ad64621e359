use Rattle.std.proofs.Common.{sym, subst}
use Rattle.ng_machine.specs.declared.item.Item.{Item}
use Rattle.ng_machine.specs.LowRun.{IsLow}
use Rattle.ng_machine.specs.Run.{RunState}
use Rattle.ng_machine.specs.World.{NodeRecord}
use Rattle.ng_core_state.specs.step.Applied.{IsAtNode, applied_from}
use Rattle.ng_core_state.specs.declared.state.State.{State}
use Rattle.ng_core_state.specs.Stands.{Stands}
use Rattle.ng_core_state.specs.service.Work.{IsReadAt}
use Rattle.ng_core_state.proofs.service.reading.apply_read.Goals as goal

pub returns-in-Ok-clause-applied : goal.returns-in-Ok-clause-applied
returns-in-Ok-clause-applied g c = λ a node S at L W.
    let applied = subst (λ (x : Item). (a : RunState) (node : NodeRecord) → Stands c.args.state.now a → IsAtNode a x node → IsLow a.world → IsReadAt x node c.args.outcome → Stands c.apply_read_item.new.state (applied_from a x))
    c.deref.ensures c.in-Ok.ensures.applied in
    subst (λ (s : State g.row.B.Denot). Stands s (applied_from a c.args.item)) (sym c.reuse.ensures) (applied a node S at L W)
