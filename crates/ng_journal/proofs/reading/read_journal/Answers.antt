-- Behind the head the events are read.
use Rattle.std.proofs.Common.{◌≡◌, ℕ, List, MatchResult, Result, Ok, sym, subst, ◌∙◌}
use Rattle.ng_base.specs.declared.event.Event.{Event}
use Rattle.ng_journal.specs.Reading.{IsTold}
use Rattle.ng_journal.proofs.Events.{read_on}
use Rattle.ng_journal.proofs.reading.read_journal.Goals as goal

pub returns-in-Some : goal.returns-in-Some
returns-in-Some c =
    let read = read_on c.args.bytes.now c.in-Some.first.now c.in-Some.rest.now c.in-Some.ensures.parts (sym c.eq.ensures ∙ c.if-eq.true) in
    subst (λ (r : Result (List Event) ℕ). MatchResult c.read_events.result (λ events. r ≡ Ok events.items) (IsTold r)) (sym read) c.read_events.ensures
