-- A line more is read.
use Rattle.std.proofs.Common.{◌+◌, List, Option, Some, sym, subst, ap, ◌∙◌, arith}
use Rattle.ng_base.specs.declared.event.Event.{Event}
use Rattle.ng_journal.specs.Fronts.{IsFirstEvent}
use Rattle.ng_journal.specs.Reading.{events_from, lines_of}
use Rattle.ng_journal.proofs.Events.{onto, onward}
use Rattle.ng_journal.proofs.reading.read_events.Goals as goal

pub loop-event-preserved : goal.loop-event-preserved
loop-event-preserved c =
    let event = c.in-Some-event.event in
    let rest = c.loop-event.rest.now in
    let behind = c.in-Some.behind.now in
    let first : IsFirstEvent rest (Some event) behind = subst (λ (said : Option Event). IsFirstEvent rest said behind) c.in-Some-event.is c.in-Some.ensures in
    record {
      read = c.loop-event.invariant.read
          ∙ onward c.loop-event.events.items event c.loop-event.line rest behind first
          ∙ ap (λ (events : List Event). onto events (events_from (c.loop-event.line + 1) (lines_of behind))) (sym c.in_ok-push.ensures.ok);
      few = (let few = c.loop-event.invariant.few in let less = first.shorter in omega arith);
    }
