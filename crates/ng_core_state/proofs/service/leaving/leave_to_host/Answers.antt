use Rattle.std.proofs.Common.{◌∙◌, ℕ, ◌+◌, List, map, ap, sym, subst, refl, arith}
use Rattle.ng_machine.specs.Change.{hand_up}
use Rattle.ng_machine.specs.World.{Port, port_of}
use Rattle.ng_core_state.specs.Stands.{port_of as port_kept}
use Rattle.ng_core_state.specs.service.Ports.{change_port, with_one_up}
use Rattle.ng_core_state.specs.service.Room.{PortTakes}
use Rattle.ng_core_state.proofs.service.Exits.{stands_outside}
use Rattle.ng_core_state.proofs.service.leaving.leave_to_host.Goals as goal

pub returns-clause-stands : goal.returns-clause-stands
returns-clause-stands g c = λ a hook packet stamp S.
    stands_outside c.args.state.now (record c.args.state.now { ports = c.send_up.new.ports }) a (hand_up a.world (port_of c.args.at)) S S.items refl refl S.told
    (c.send_up.ensures.ports
    ∙ ap (λ (n : ℕ). change_port n with_one_up (map port_kept c.args.state.now.ports.items)) c.port_of.ensures
    ∙ ap (λ (ps : List Port). change_port (port_of c.args.at) with_one_up ps) S.ports)
    (record { nodes = refl; stock = refl; next_link = refl; pending = refl })

pub returns-clause-room : goal.returns-clause-room
returns-clause-room g c = λ n R. record {
  told = let t = R.told in omega arith;
  port = subst (λ (k : ℕ). PortTakes k n c.send_up.new.ports.items) c.port_of.ensures (c.send_up.ensures.room n (subst (λ (k : ℕ). PortTakes k (n + 1) c.args.state.now.ports.items) (sym c.port_of.ensures) R.port));
}
