use Rattle.std.proofs.Common.{◌≡◌, sym, ap, subst}
use Rattle.ng_base.specs.declared.ids.Stamp.{Stamp}
use Rattle.ng_machine.specs.Change.{accept_at}
use Rattle.ng_machine.specs.World.{node_at}
use Rattle.ng_queue.specs.pending.Holds.{in_world}
use Rattle.ng_queue.specs.declared.tally.tally.Tally.{Tally}
use Rattle.ng_core_state.specs.Stands.{Stands}
use Rattle.ng_core.specs.declared.intake.decided.Decided.{Decided}
use Rattle.ng_core.specs.intake.Decided.{does}
use Rattle.ng_core.proofs.intake.feeding.carry_out.Goals as goal

pub returns-in-Accept : goal.returns-in-Accept
returns-in-Accept g c = λ a S.
    let clock : c.args.state.now.pending.tally.clock ≡ a.world.clock = ap (λ (t : Tally). t.clock) S.items.tally in
    subst (λ (d : Decided). Stands c.accept_at.new.state (in_world a (does d a.world c.args.command))) (sym c.in-Accept.is)
    (subst (λ (k : Stamp). Stands c.accept_at.new.state (in_world a (accept_at a.world c.in-Accept.to (node_at a.world c.in-Accept.to) c.in-Accept.body c.in-Accept.tag k))) clock
    (c.accept_at.ensures.stands a c.in-Accept.to S))
