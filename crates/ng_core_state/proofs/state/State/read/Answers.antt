use Rattle.std.proofs.Common.{Bool, true, false, length, ap, subst, refl}
use Rattle.ng_machine.specs.declared.told.Told.TheVariants.{Frame}
use Rattle.ng_machine.specs.World.{World}
use Rattle.ng_queue.specs.pending.Holds.{HoldsItems, in_world, spooled}
use Rattle.ng_queue.specs.Queues.{QueueLists}
use Rattle.ng_core_state.specs.Stands.{Stands}
use Rattle.ng_core_state.proofs.SentItems.{stands_counted}
use Rattle.ng_core_state.proofs.ToldEntries.{stands_told, read_fits, read_lost}
use Rattle.ng_core_state.proofs.state.State.read.Goals as goal

pub returns-then-leave-clause-stands : goal.returns-then-leave-clause-stands
returns-then-leave-clause-stands g c = λ a at stamp S.
    let H = subst (λ (b : Bool). HoldsItems c.leave.new.self (in_world a (spooled b a.world c.args.packet))) c.if-leave.true (c.leave.ensures.holds a S.items) in
    subst (λ (w : World). Stands (record c.args.self.now { pending = c.leave.new.self; told = c.push_reserved.new.self }) (in_world a w))
    (read_fits a.world c.args.hook c.args.packet c.leave.result (c.leave.ensures.answer a S.items) c.if-leave.true)
    (stands_told c.args.self.now (record c.args.self.now { pending = c.leave.new.self; told = c.push_reserved.new.self }) a (spooled true a.world c.args.packet) (Frame c.args.hook c.args.packet) S H refl
    (ap (λ (q : QueueLists). length q.lists) c.leave.ensures.queues) c.push_reserved.ensures.items refl (record { nodes = refl; stock = refl; next_link = refl; told = refl; ports = refl }) refl)

pub returns-else-leave-clause-stands : goal.returns-else-leave-clause-stands
returns-else-leave-clause-stands g c = λ a at stamp S.
    let H = subst (λ (b : Bool). HoldsItems c.leave.new.self (in_world a (spooled b a.world c.args.packet))) c.if-leave.false (c.leave.ensures.holds a S.items) in
    subst (λ (w : World). Stands (record c.args.self.now { pending = c.leave.new.self }) (in_world a w))
    (read_lost a.world c.args.hook c.args.packet c.leave.result (c.leave.ensures.answer a S.items) c.if-leave.false)
    (stands_counted c.args.self.now (record c.args.self.now { pending = c.leave.new.self }) a (spooled false a.world c.args.packet) S H refl
    (ap (λ (q : QueueLists). length q.lists) c.leave.ensures.queues) refl refl (record { nodes = refl; stock = refl; next_link = refl; told = refl; ports = refl }) refl)
