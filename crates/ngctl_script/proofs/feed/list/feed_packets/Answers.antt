-- The packets are fed one after the other.
use Rattle.std.proofs.Common.{◌+◌, ◌++◌, ◌∷◌, length, Option, refl, sym, ap, subst, ◌∙◌, arith}
use Rattle.std.proofs.lemmas.List.{append-nil}
use Rattle.ngctl_script.specs.declared.feed.arrival.Arrival.{Arrival}
use Rattle.ngctl_script.specs.feed.Merge.{merged, with_next}
use Rattle.ngctl_script.specs.feed.Dealing.{feeds, feeds_from, rest_from}
use Rattle.ngctl_script.proofs.feed.Merged.{is_next_early, early_by}
use Rattle.ngctl_script.proofs.feed.Steps.{one_step}
use Rattle.ngctl_script.proofs.feed.list.feed_packets.Goals as goal

pub loop-next-init : goal.loop-next-init
loop-next-init c =
    let E : Option Arrival → Type 0 = λ next. is_next_early next in
    let all = ap length c.take_next-next.ensures.rest in
    record {
      inputs = refl;
      rest = refl;
      place = omega (arith, all, c.requires.packets);
      few = omega (arith, c.take_next-next.ensures.queues, c.requires.few);
      clock = subst E c.in-Some.is (early_by c.take_next-next.result c.take_next-next.ensures.early);
      early = early_by c.take_next-next.result c.take_next-next.ensures.early;
    }

pub loop-next-smaller : goal.loop-next-smaller
loop-next-smaller c =
    let all = ap length c.take_next-next-in-Some-next.ensures.rest in
    let one = ap (λ next. length (with_next next (merged c.loop-next.queues.items))) c.in-Some-next.is in
    omega (arith, all, one)

pub loop-next-preserved : goal.loop-next-preserved
loop-next-preserved c =
    let E : Option Arrival → Type 0 = λ next. is_next_early next in
    let left_over = with_next c.take_next-next-in-Some-next.result (merged c.take_next-next-in-Some-next.new.queues.items) in
    let rest = c.take_next-next-in-Some-next.ensures.rest in
    let all = ap length rest in
    let one = ap (λ next. length (with_next next (merged c.loop-next.queues.items))) c.in-Some-next.is in
    let time = ap (λ stamp. stamp.0) c.later_of-now.ensures in
    let early = subst E c.in-Some-next.is c.loop-next.invariant.early in
    record {
      inputs =
          one_step c.args.packets c.in-Some.arrival.stamp c.loop-next.clock c.later_of-now.result c.loop-next.place c.loop-next.commands c.feed_turn.new.self c.in-Some-next.arrival left_over
          c.loop-next.inputs.items c.add_packet.new.inputs.items c.feed_turn.new.inputs.items c.in_ok-add_packet.ensures c.in_ok-feed_turn.ensures.inputs c.in_ok-feed_turn.ensures.rest c.later_of-now.ensures
          ∙ ap (λ arrivals. c.loop-next.inputs.items ++ feeds_from c.args.packets c.in-Some.arrival.stamp c.loop-next.clock c.loop-next.place c.loop-next.commands (c.in-Some-next.arrival ∷ arrivals)) (sym rest)
          ∙ ap (λ next. c.loop-next.inputs.items ++ feeds_from c.args.packets c.in-Some.arrival.stamp c.loop-next.clock c.loop-next.place c.loop-next.commands (with_next next (merged c.loop-next.queues.items)))
          (sym c.in-Some-next.is)
          ∙ c.loop-next.invariant.inputs;
      rest =
          ap (λ commands. rest_from c.args.packets (c.loop-next.place + 1) commands left_over) c.in_ok-feed_turn.ensures.rest
          ∙ ap (λ arrivals. rest_from c.args.packets c.loop-next.place c.loop-next.commands (c.in-Some-next.arrival ∷ arrivals)) (sym rest)
          ∙ ap (λ next. rest_from c.args.packets c.loop-next.place c.loop-next.commands (with_next next (merged c.loop-next.queues.items))) (sym c.in-Some-next.is)
          ∙ c.loop-next.invariant.rest;
      place = omega (arith, all, one, c.loop-next.invariant.place);
      few = omega (arith, c.take_next-next-in-Some-next.ensures.queues, c.loop-next.invariant.few);
      clock = omega (arith, time, early, c.loop-next.invariant.clock);
      early = early_by c.take_next-next-in-Some-next.result c.take_next-next-in-Some-next.ensures.early;
    }

pub returns-clause-inputs : goal.returns-clause-inputs
returns-clause-inputs c =
    sym (append-nil c.loop-next.inputs.items)
    ∙ ap (λ next. c.loop-next.inputs.items ++ feeds_from c.args.packets c.in-Some.arrival.stamp c.loop-next.clock c.loop-next.place c.loop-next.commands (with_next next (merged c.loop-next.queues.items)))
    (sym c.in_default-next.is)
    ∙ c.loop-next.invariant.inputs
    ∙ ap (λ next. c.args.inputs.now.items ++ feeds_from c.args.packets c.in-Some.arrival.stamp c.in-Some.arrival.stamp 1 c.args.commands.now (with_next next (merged c.take_next-next.new.queues.items))) c.in-Some.is
    ∙ ap (λ next. c.args.inputs.now.items ++ feeds c.args.packets c.args.commands.now (with_next next (merged c.take_next-next.new.queues.items))) (sym c.in-Some.is)
    ∙ ap (λ arrivals. c.args.inputs.now.items ++ feeds c.args.packets c.args.commands.now arrivals) (sym c.take_next-next.ensures.rest)

pub returns-clause-rest : goal.returns-clause-rest
returns-clause-rest c =
    ap (λ next. rest_from c.args.packets c.loop-next.place c.loop-next.commands (with_next next (merged c.loop-next.queues.items))) (sym c.in_default-next.is)
    ∙ c.loop-next.invariant.rest
    ∙ ap (λ arrivals. rest_from c.args.packets 1 c.args.commands.now arrivals) (sym c.take_next-next.ensures.rest)
