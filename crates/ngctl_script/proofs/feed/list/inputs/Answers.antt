-- What is fed turn by turn is the list of inputs.
use Rattle.std.proofs.Common.{ap, subst, sym, ◌∙◌}
use Rattle.ngctl_script.specs.feed.Merge.{packet_count, merged}
use Rattle.ngctl_script.specs.declared.when.When.TheVariants.{First}
use Rattle.ngctl_script.specs.Held.{AreInOrder}
use Rattle.ngctl_script.specs.feed.Inputs.{Timed, inputs_with}
use Rattle.ngctl_script.proofs.feed.Merged.{counted}
use Rattle.ngctl_script.proofs.feed.Dealt.{whole}
use Rattle.ngctl_script.proofs.feed.list.inputs.Goals as goal

pub feed_packets-requires-clause-packets : goal.feed_packets-requires-clause-packets
feed_packets-requires-clause-packets c = c.count-packets.ensures.packets ∙ ap packet_count c.deref.ensures.value ∙ sym (counted c.in_ok-queues.queues.items)

pub returns : goal.returns
returns c =
    let P : Timed → Type 0 = λ script. AreInOrder First script in
    whole c.args.script (merged c.in_ok-queues.queues.items) (subst P c.script.view_is c.script.invariant.ordered) c.count-packets.result c.of-commands.result c.feed_turn.new.self c.feed_turn-2.new.self c.feed_packets.new.commands
    c.in_ok-inputs.inputs.items c.feed_turn.new.inputs.items c.feed_turn-2.new.inputs.items c.feed_packets.new.inputs.items c.feed_late.new.inputs.items
    (c.count-packets.ensures.packets ∙ ap packet_count c.deref.ensures.value ∙ sym (counted c.in_ok-queues.queues.items))
    c.of-commands.ensures c.in_ok-inputs.ensures c.in_ok-feed_turn.ensures.inputs c.in_ok-feed_turn.ensures.rest c.in_ok-feed_turn-2.ensures.inputs c.in_ok-feed_turn-2.ensures.rest
    c.in_ok-feed_packets.ensures.inputs c.in_ok-feed_packets.ensures.rest c.in_ok-feed_late.ensures
    ∙ ap (λ queues. inputs_with c.args.script (merged queues)) c.in_ok-queues.ensures
