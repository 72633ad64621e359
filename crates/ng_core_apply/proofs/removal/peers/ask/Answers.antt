use Rattle.std.proofs.Common.{Bool, sym, subst}
use Rattle.std.proofs.lemmas.Bool.{ne_eqb}
use Rattle.ng_machine.specs.Change.{change_all}
use Rattle.ng_machine.specs.Retire.{leave_step_unless}
use Rattle.ng_queue.specs.pending.Holds.{in_world}
use Rattle.ng_core_state.specs.Stands.{Stands}
use Rattle.ng_core_apply.proofs.removal.peers.ask.Goals as goal

pub returns-clause-stands : goal.returns-clause-stands
returns-clause-stands g c = λ a S.
    subst (λ (b : Bool). Stands c.accept_at.new.state (in_world a (change_all c.args.at c.args.stamp a.world (leave_step_unless b c.args.hook.now)))) (sym (ne_eqb c.args.hook.now.peer.node.0 c.args.at.0 c.if-hook-at.false))
    (c.accept_at.ensures.stands a c.args.at S)
