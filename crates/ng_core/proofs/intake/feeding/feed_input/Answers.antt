use Rattle.std.proofs.Common.{◌∙◌, [], refl, sym, subst}
use Rattle.std.specs.declared.option.Option.TheVariants.{Some}
use Rattle.ng_machine.specs.declared.input.Input.{Input}
use Rattle.ng_machine.specs.Feed.{feed_next}
use Rattle.ng_queue.specs.pending.Holds.{in_world}
use Rattle.ng_table.specs.reading.Reading.{given}
use Rattle.ng_core_state.specs.Stands.{Stands}
use Rattle.ng_core.proofs.intake.Results.{either_way, on_ok}
use Rattle.ng_core.proofs.intake.feeding.feed_input.Goals as goal

pub returns-in-Packet-clause-fed : goal.returns-in-Packet-clause-fed
returns-in-Packet-clause-fed g c = on_ok c.feed_packet.result
    (λ fed a input r S. subst (λ (i : Input). Stands c.feed_packet.new.state (in_world a (feed_next input a.world (Some i)))) (sym c.in-Packet.is) (fed a input S))
    c.feed_packet.ensures.fed

pub returns-in-Packet-clause-out : goal.returns-in-Packet-clause-out
returns-in-Packet-clause-out g c =
    let W = c.requires.standing in
    either_way c.feed_packet.result
    (λ fed. (fed W.0 (given []) W.1).items.out ∙ sym W.1.items.out)
    (λ err. (err W.0 W.1).items.out ∙ sym W.1.items.out)
    c.feed_packet.ensures.fed c.feed_packet.ensures.err

pub returns-in-Tick-clause-fed : goal.returns-in-Tick-clause-fed
returns-in-Tick-clause-fed g c = on_ok c.feed_tick.result
    (λ fed a input r S. subst (λ (i : Input). Stands c.feed_tick.new.state (in_world a (feed_next input a.world (Some i)))) (sym c.in-Tick.is) (fed a input S))
    c.feed_tick.ensures.fed

pub returns-in-Tick-clause-out : goal.returns-in-Tick-clause-out
returns-in-Tick-clause-out g c =
    let W = c.requires.standing in
    either_way c.feed_tick.result
    (λ fed. (fed W.0 (given []) W.1).items.out ∙ sym W.1.items.out)
    (λ err. (err W.0 W.1).items.out ∙ sym W.1.items.out)
    c.feed_tick.ensures.fed c.feed_tick.ensures.err

pub returns-in-Command-clause-out : goal.returns-in-Command-clause-out
returns-in-Command-clause-out g c =
    let W = c.requires.standing in
    either_way c.feed_command.result
    (λ fed. (fed W.0 (given []) refl W.1).items.out ∙ sym W.1.items.out)
    (λ err. (err W.0 W.1).items.out ∙ sym W.1.items.out)
    c.feed_command.ensures.fed c.feed_command.ensures.err
