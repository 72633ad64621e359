use Rattle.std.proofs.Common.{◌≡◌, sym, subst}
use Rattle.std.specs.Prelude.{IfOk, Option, Result}
use Rattle.ng_machine.specs.Run.{RunState}
use Rattle.ng_machine.specs.State.{State as NodeState}
use Rattle.ng_machine.specs.World.{NodeRecord}
use Rattle.ng_core_state.specs.declared.handed.Done.{Done}
use Rattle.ng_core_state.specs.declared.state.State.{State}
use Rattle.ng_core_state.specs.Handed.{item_done}
use Rattle.ng_core_apply.specs.AtHand.{Applies, IsHandedIn}
use Rattle.ng_core_apply.proofs.outcome.apply.Goals as goal

-- what is said of one of the three forms is said of what is handed in
said_of : {B : Type 0} (state : B → NodeState) (s t : State B) (form done : Done B) (result : Result (Option B) (Done B)) → done ≡ form
    → IfOk result (λ out. (a : RunState) (node : NodeRecord) → IsHandedIn s state form a node → Applies state t (item_done form) a node out)
    → IfOk result (λ out. (a : RunState) (node : NodeRecord) → IsHandedIn s state done a node → Applies state t (item_done done) a node out)
said_of state s t form done result is applied =
    subst (λ (d : Done _). IfOk result (λ out. (a : RunState) (node : NodeRecord) → IsHandedIn s state d a node → Applies state t (item_done d) a node out)) (sym is) applied

pub returns-in-Read-clause-applied : goal.returns-in-Read-clause-applied
returns-in-Read-clause-applied g c = said_of g.B.Node.state c.args.state.now c.apply_packet.new.state _ c.args.done c.apply_packet.result c.in-Read.is c.apply_packet.ensures.applied

pub returns-in-Write-clause-applied : goal.returns-in-Write-clause-applied
returns-in-Write-clause-applied g c = said_of g.B.Node.state c.args.state.now c.apply_writer.new.state _ c.args.done c.apply_writer.result c.in-Write.is c.apply_writer.ensures.applied

pub returns-in-Inside-clause-applied : goal.returns-in-Inside-clause-applied
returns-in-Inside-clause-applied g c = said_of g.B.Node.state c.args.state.now c.apply_alone.new.state _ c.args.done c.apply_alone.result c.in-Inside.is c.apply_alone.ensures.applied
