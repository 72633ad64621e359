use Rattle.std.proofs.Common.{sym, subst}
use Rattle.ng_machine.specs.declared.body.Exit.{Exit}
use Rattle.ng_machine.specs.Change.{leave}
use Rattle.ng_queue.specs.pending.Holds.{in_world}
use Rattle.ng_core_state.specs.Stands.{Stands}
use Rattle.ng_core_state.specs.service.Leaving.{name_or_empty}
use Rattle.ng_core_state.proofs.service.leaving.leave.Goals as goal

pub returns-in-Wire-clause-stands : goal.returns-in-Wire-clause-stands
returns-in-Wire-clause-stands g c = λ a S.
    subst (λ (e : Exit). Stands c.leave_by_wire.new.state (in_world a (leave a.world c.args.at c.args.stamp e (name_or_empty c.args.hook.now) c.args.packet))) (sym c.in-Wire.is) (c.leave_by_wire.ensures.stands a (name_or_empty c.args.hook.now) S)

pub returns-in-Host-clause-stands : goal.returns-in-Host-clause-stands
returns-in-Host-clause-stands g c = λ a S.
    subst (λ (e : Exit). Stands c.leave_to_host.new.state (in_world a (leave a.world c.args.at c.args.stamp e (name_or_empty c.args.hook.now) c.args.packet))) (sym c.in-Host.is) (c.leave_to_host.ensures.stands a (name_or_empty c.args.hook.now) c.args.packet c.args.stamp S)

pub returns-in-Reader-clause-stands : goal.returns-in-Reader-clause-stands
returns-in-Reader-clause-stands g c = λ a S.
    subst (λ (e : Exit). Stands c.leave_to_reader.new.state (in_world a (leave a.world c.args.at c.args.stamp e (name_or_empty c.args.hook.now) c.args.packet))) (sym c.in-Reader.is) (c.leave_to_reader.ensures.stands a c.args.stamp S)
