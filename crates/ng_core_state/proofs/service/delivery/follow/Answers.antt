use Rattle.std.proofs.Common.{sym, subst}
use Rattle.std.specs.declared.option.Option.{Option}
use Rattle.ng_machine.specs.Change.{change_all}
use Rattle.ng_queue.specs.pending.Holds.{in_world}
use Rattle.ng_core_state.specs.Stands.{Stands}
use Rattle.ng_core_state.specs.declared.service.follower.Follower.{Follower}
use Rattle.ng_core_state.specs.service.Followers.{accepts_of}
use Rattle.ng_core_state.proofs.service.delivery.follow.Goals as goal

pub returns-in-Some-clause-stands : goal.returns-in-Some-clause-stands
returns-in-Some-clause-stands g c = λ a at S.
    subst (λ (o : Option Follower). Stands c.accept_at.new.state (in_world a (change_all at c.args.stamp a.world (accepts_of o)))) (sym c.in-Some.is) (c.accept_at.ensures.stands a at S)
