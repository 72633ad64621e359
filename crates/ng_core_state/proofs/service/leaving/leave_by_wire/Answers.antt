use Rattle.std.proofs.Common.{◌∙◌, ℕ, ◌+◌, List, Bool, true, false, length, map, ap, sym, subst, refl, arith}
use Rattle.ng_machine.specs.World.{Port, port_of}
use Rattle.ng_queue.specs.pending.Holds.{HoldsItems, in_world, spooled}
use Rattle.ng_queue.specs.Queues.{QueueLists}
use Rattle.ng_core_state.specs.Stands.{port_of as port_kept}
use Rattle.ng_core_state.specs.service.Ports.{change_port, with_packet}
use Rattle.ng_core_state.specs.service.Room.{PortTakes}
use Rattle.ng_core_state.proofs.service.Exits.{stands_wired}
use Rattle.ng_core_state.proofs.service.leaving.leave_by_wire.Goals as goal

pub returns-then-leave-clause-stands : goal.returns-then-leave-clause-stands
returns-then-leave-clause-stands g c = λ a hook S.
    stands_wired c.args.state.now (record c.args.state.now { pending = c.leave.new.self; ports = c.send_out.new.ports }) a (port_of c.args.at) true c.args.packet c.args.stamp S
    (subst (λ (b : Bool). HoldsItems c.leave.new.self (in_world a (spooled b a.world c.args.packet))) c.if-leave.true (c.leave.ensures.holds a S.items)) refl
    (ap (λ (q : QueueLists). length q.lists) c.leave.ensures.queues) refl (c.leave.ensures.answer a S.items ∙ c.if-leave.true)
    (c.send_out.ensures.ports
    ∙ ap (λ (n : ℕ). change_port n (with_packet c.args.stamp c.args.packet) (map port_kept c.args.state.now.ports.items)) c.port_of.ensures
    ∙ ap (λ (ps : List Port). change_port (port_of c.args.at) (with_packet c.args.stamp c.args.packet) ps) S.ports)

pub returns-else-leave-clause-stands : goal.returns-else-leave-clause-stands
returns-else-leave-clause-stands g c = λ a hook S.
    stands_wired c.args.state.now (record c.args.state.now { pending = c.leave.new.self }) a (port_of c.args.at) false c.args.packet c.args.stamp S
    (subst (λ (b : Bool). HoldsItems c.leave.new.self (in_world a (spooled b a.world c.args.packet))) c.if-leave.false (c.leave.ensures.holds a S.items)) refl
    (ap (λ (q : QueueLists). length q.lists) c.leave.ensures.queues) refl (c.leave.ensures.answer a S.items ∙ c.if-leave.false) S.ports

pub returns-then-leave-clause-room : goal.returns-then-leave-clause-room
returns-then-leave-clause-room g c = λ n R. record {
  told = let t = R.told in omega arith;
  port = subst (λ (k : ℕ). PortTakes k n c.send_out.new.ports.items) c.port_of.ensures (c.send_out.ensures.room n (subst (λ (k : ℕ). PortTakes k (n + 1) c.args.state.now.ports.items) (sym c.port_of.ensures) R.port));
}
