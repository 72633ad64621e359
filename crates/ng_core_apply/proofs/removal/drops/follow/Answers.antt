use Rattle.std.proofs.Common.{sym, subst}
use Rattle.ng_machine.specs.declared.body.Body.{Body}
use Rattle.ng_machine.specs.Change.{change_all}
use Rattle.ng_machine.specs.Retire.{aftermath_of}
use Rattle.ng_queue.specs.pending.Holds.{in_world}
use Rattle.ng_core_state.specs.Stands.{Stands}
use Rattle.ng_core_apply.proofs.removal.drops.follow.Goals as goal

pub returns-in-Join2-clause-stands : goal.returns-in-Join2-clause-stands
returns-in-Join2-clause-stands g c = λ a at S.
    subst (λ (b : Body). Stands c.accept_at.new.state (in_world a (change_all at c.args.stamp a.world (aftermath_of c.args.dropped.now b)))) (sym c.in-Join2.is) (c.accept_at.ensures.stands a at S)
