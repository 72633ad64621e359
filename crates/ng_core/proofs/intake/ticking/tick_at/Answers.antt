use Rattle.std.proofs.Common.{◌≡◌, List, Bool, true, sym, ap, ◌∙◌, subst}
use Rattle.std.specs.declared.option.Option.{Option}
use Rattle.std.specs.declared.option.Option.TheVariants.{None}
use Rattle.ng_base.specs.declared.ids.Stamp.{Stamp}
use Rattle.ng_machine.specs.declared.body.Body.TheVariants.{Tick}
use Rattle.ng_machine.specs.Change.{accept_at}
use Rattle.ng_machine.specs.Feed.{feed_tick, is_bridge}
use Rattle.ng_machine.specs.World.{NodeRecord, node_at, node_in}
use Rattle.ng_queue.specs.pending.Holds.{in_world}
use Rattle.ng_queue.specs.declared.tally.tally.Tally.{Tally}
use Rattle.ng_core_state.specs.Stands.{Stands}
use Rattle.ng_core.proofs.intake.ticking.tick_at.Goals as goal

pub returns-then-is_bridge-clause-stands : goal.returns-then-is_bridge-clause-stands
returns-then-is_bridge-clause-stands g c = λ a S.
    let clock : c.args.state.now.pending.tally.clock ≡ a.world.clock = ap (λ (t : Tally). t.clock) S.items.tally in
    let bridge : is_bridge (node_in a.world.nodes c.args.id) ≡ true =
    sym (ap (λ (l : List (Option NodeRecord)). is_bridge (node_in l c.args.id)) S.graph.nodes) ∙ sym c.is_bridge.ensures ∙ c.if-is_bridge.true in
    subst (λ (b : Bool). Stands c.accept_at.new.state (in_world a (feed_tick a.world c.args.seconds c.args.id.0 b))) (sym bridge)
    (subst (λ (k : Stamp). Stands c.accept_at.new.state (in_world a (accept_at a.world c.args.id (node_at a.world c.args.id) (Tick c.args.seconds) None k))) clock
    (c.accept_at.ensures.stands a c.args.id S))
